-- The blocks that are made by marks are those of the plan.
use Rattle.std.proofs.Common.{◌≡◌, ◌≢◌, ℕ, ◌+◌, ◌<◌, ◌&&◌, Bool, true, false, not, List, [], ◌∷◌, ◌++◌, length, map, take, get_or, refl, sym, ap, ◌∙◌, arith}
use Rattle.std.specs.Prelude.{nat_eq}
use Rattle.std.specs.List.{filter, flat_map, range_with_len}
use Rattle.std.proofs.lemmas.Bool.{eq-eqb, ne_eqb}
use Rattle.std.proofs.lemmas.List.{flat_map_more, take_more}
use Rattle.std.proofs.lemmas.List.Elements.{filter_agree}
use Rattle.pyr_graph.specs.declared.placement.Placement.{Placement}
use Rattle.pyr_graph.specs.System.{System, datum_count, writer_of}
use Rattle.pyr_graph.specs.Placements.{processor_of, same_processor}
use Rattle.pyr_bundle.specs.declared.raw_instr.RawInstr.{RawInstr}
use Rattle.pyr_bundle.specs.declared.raw_instr.RawInstr.TheVariants.{Recv, Exec, Send}
use Rattle.pyr_emit.specs.Emission.{data_read, data_written, is_awaited, receive_of, receives, is_destination, sends_of, sends, block_at}
use Rattle.pyr_emit.specs.Marks.{is_marked, marks_of, AreMarks, AreReaders, AreFull, marked_receives, marked_sends_of, marked_sends, marked_block}
use Rattle.pyr_emit.proofs.Ranges.{filter_same, listed_yes, listed_no, pieces_yes, pieces_no}

flat_map_same : {X Y : Type 0} (f g : X → List Y) → ((x : X) → f x ≡ g x) → (xs : List X) → flat_map f xs ≡ flat_map g xs
flat_map_same f g same [] = refl
flat_map_same f g same (x ∷ xs) =
    ap (λ (ys : List _). ys ++ flat_map f xs) (same x) ∙ ap (λ (ys : List _). g x ++ ys) (flat_map_same f g same xs)

-- the sends of one datum more
pub sends_more : (s : System) (t here : ℕ) (readers : List (List Bool)) (list : List ℕ) (i : ℕ) (xs ys zs : List RawInstr) → list ≡ data_written s t → i < length list
    → ys ≡ zs ++ flat_map (marked_sends_of readers here) (take i (data_written s t)) → xs ≡ ys ++ marked_sends_of readers here (get_or list i 0)
    → xs ≡ zs ++ flat_map (marked_sends_of readers here) (take (i + 1) (data_written s t))
sends_more s t here readers list i xs ys zs is_list inside was is =
    is ∙ ap (λ (l : List RawInstr). l ++ marked_sends_of readers here (get_or list i 0)) was
    ∙ ap (λ (l : List ℕ). (zs ++ flat_map (marked_sends_of readers here) (take i l)) ++ marked_sends_of readers here (get_or list i 0)) (sym is_list)
    ∙ flat_map_more (marked_sends_of readers here) zs (take i list) (get_or list i 0)
    ∙ ap (λ (l : List ℕ). zs ++ flat_map (marked_sends_of readers here) l) (sym (take_more list i 0 inside))
    ∙ ap (λ (l : List ℕ). zs ++ flat_map (marked_sends_of readers here) (take (i + 1) l)) is_list

module _ (s : System) (placement : Placement) where
  -- a row for each processor has an entry for each datum
  pub full_rows : (tasks : List ℕ) (readers : List (List Bool)) → AreReaders s placement tasks readers → AreFull readers (datum_count s)
  full_rows tasks readers are = record { rows = λ q l. let n = (are.rows q (omega (arith, are.full))).full in omega arith }

  module _ (order : List ℕ) (i : ℕ) (known : List Bool) (readers : List (List Bool)) where
    receives_same : (t : ℕ) → AreMarks s placement (take i order) (processor_of placement t) known → marked_receives s placement known t ≡ receives s placement (take i order) t
    receives_same t marks =
        ap (map (receive_of s placement))
        (filter_agree (λ d. not (same_processor placement (writer_of s d) t) && not (is_marked known d)) (is_awaited s placement (take i order) t)
        (λ d. ap (λ b. not (same_processor placement (writer_of s d) t) && not b) (marks.each d)) (data_read s t))

    sends_of_same : (t d : ℕ) → AreReaders s placement order readers → marked_sends_of readers (processor_of placement t) d ≡ sends_of s placement order t d
    sends_of_same t d are =
        ap (λ n. map (λ q. Send q d) (filter (λ q. not (nat_eq q (processor_of placement t)) && is_marked (marks_of readers q) d) (range_with_len 0 n))) are.full
        ∙ ap (map (λ q. Send q d)) (filter_same (λ q. not (nat_eq q (processor_of placement t)) && is_marked (marks_of readers q) d) (is_destination s placement order t d) 0 placement.processors
        (λ q l. ap (λ b. not (nat_eq q (processor_of placement t)) && b) ((are.rows q (omega arith)).each d)))

    pub block_same : (t : ℕ) → t ≡ get_or order i 0 → AreMarks s placement (take i order) (processor_of placement t) known → AreReaders s placement order readers
        → marked_block s placement known readers t ≡ block_at s placement order i
    block_same t here marks are =
        ap (λ (l : List RawInstr). l ++ Exec t ∷ marked_sends s readers (processor_of placement t) t) (receives_same t marks)
        ∙ ap (λ (l : List RawInstr). receives s placement (take i order) t ++ Exec t ∷ l) (flat_map_same (marked_sends_of readers (processor_of placement t)) (sends_of s placement order t) (λ d. sends_of_same t d are) (data_written s t))
        ∙ ap (λ u. receives s placement (take i order) u ++ Exec u ∷ sends s placement order u) here

  -- one receive more
  module _ (t : ℕ) (known : List Bool) (list : List ℕ) (i d from here : ℕ) (is_list : list ≡ data_read s t) (inside : i < length list) (is_d : d ≡ get_or list i 0)
      (is_from : from ≡ processor_of placement (writer_of s d)) (is_here : here ≡ processor_of placement t) where
    abbrev awaited : ℕ → Bool
    awaited e = not (same_processor placement (writer_of s e) t) && not (is_marked known e)

    test_same : (not (nat_eq from here) && not (is_marked known d)) ≡ awaited (get_or list i 0)
    test_same =
        ap (λ f. not (nat_eq f here) && not (is_marked known d)) is_from ∙ ap (λ h. not (nat_eq (processor_of placement (writer_of s d)) h) && not (is_marked known d)) is_here ∙ ap awaited is_d

    pub receive_yes : (xs ys zs : List RawInstr) → (not (nat_eq from here) && not (is_marked known d)) ≡ true → ys ≡ zs ++ map (receive_of s placement) (filter awaited (take i (data_read s t)))
        → xs ≡ ys ++ Recv from d ∷ [] → xs ≡ zs ++ map (receive_of s placement) (filter awaited (take (i + 1) (data_read s t)))
    receive_yes xs ys zs passes was is =
        listed_yes (receive_of s placement) awaited list i xs ys zs inside (sym test_same ∙ passes) (was ∙ ap (λ (l : List ℕ). zs ++ map (receive_of s placement) (filter awaited (take i l))) (sym is_list))
        (is ∙ ap (λ f. ys ++ Recv f d ∷ []) is_from ∙ ap (λ e. ys ++ receive_of s placement e ∷ []) is_d)
        ∙ ap (λ (l : List ℕ). zs ++ map (receive_of s placement) (filter awaited (take (i + 1) l))) is_list

    pub receive_no : (ys zs : List RawInstr) → (not (nat_eq from here) && not (is_marked known d)) ≡ false → ys ≡ zs ++ map (receive_of s placement) (filter awaited (take i (data_read s t)))
        → ys ≡ zs ++ map (receive_of s placement) (filter awaited (take (i + 1) (data_read s t)))
    receive_no ys zs fails was =
        listed_no (receive_of s placement) awaited list i ys zs inside (sym test_same ∙ fails) (was ∙ ap (λ (l : List ℕ). zs ++ map (receive_of s placement) (filter awaited (take i l))) (sym is_list))
        ∙ ap (λ (l : List ℕ). zs ++ map (receive_of s placement) (filter awaited (take (i + 1) l))) is_list

  -- one task more
  module _ (order : List ℕ) (i p t : ℕ) (here : t ≡ get_or order i 0) where
    pub code_yes : (old new block : List RawInstr) → processor_of placement t ≡ p → old ≡ flat_map (block_at s placement order) (filter (λ k. nat_eq (processor_of placement (get_or order k 0)) p) (range_with_len 0 i))
        → block ≡ block_at s placement order i → new ≡ old ++ block
        → new ≡ flat_map (block_at s placement order) (filter (λ k. nat_eq (processor_of placement (get_or order k 0)) p) (range_with_len 0 (i + 1)))
    code_yes old new block on was is grown =
        pieces_yes (block_at s placement order) (λ k. nat_eq (processor_of placement (get_or order k 0)) p) i new old
        (eq-eqb _ p (ap (processor_of placement) (sym here) ∙ on)) was (grown ∙ ap (λ (l : List RawInstr). old ++ l) is)

    pub code_no : (old : List RawInstr) → processor_of placement t ≢ p → old ≡ flat_map (block_at s placement order) (filter (λ k. nat_eq (processor_of placement (get_or order k 0)) p) (range_with_len 0 i))
        → old ≡ flat_map (block_at s placement order) (filter (λ k. nat_eq (processor_of placement (get_or order k 0)) p) (range_with_len 0 (i + 1)))
    code_no old off was =
        pieces_no (block_at s placement order) (λ k. nat_eq (processor_of placement (get_or order k 0)) p) i old
        (ne_eqb _ p (λ e. off (ap (processor_of placement) here ∙ e))) was
