-- What the instructions of a plan name exists, and none is about its own processor.
use Rattle.std.proofs.Common.{◌≡◌, ◌≢◌, ℕ, ◌<◌, Bool, true, false, not, List, [], ◌∷◌, length, take, get_or, All, refl, sym, ap, ◌∙◌, subst, arith}
use Rattle.std.specs.Prelude.{nat_eq, count_by, slice_index}
use Rattle.std.specs.List.{filter, flat_map, range_with_len}
use Rattle.std.proofs.lemmas.Bool.{eq-eqb, ne_eqb, eqb-true, and_parts, not-true}
use Rattle.std.proofs.lemmas.List.Elements.{All-nil, All-cons, All-head, All-tail, All-append, All-map, All-filter, All-weaker, filter_passes}
use Rattle.std.proofs.lemmas.List.Sums.{sum_by-cons}
use Rattle.pyr_graph.specs.declared.placement.Placement.{Placement}
use Rattle.pyr_graph.specs.System.{System, task_count, datum_count, writer_of, IsEdge}
use Rattle.pyr_graph.specs.WholeGraph.{IsGraph}
use Rattle.pyr_seq.specs.Walk.{IsTopological}
use Rattle.pyr_graph.specs.Placements.{processor_of, same_processor}
use Rattle.pyr_rcp.specs.Order.{IsPlaced}
use Rattle.pyr_bundle.specs.declared.raw_instr.RawInstr.{RawInstr}
use Rattle.pyr_bundle.specs.declared.raw_instr.RawInstr.TheVariants.{Recv, Exec, Send}
use Rattle.pyr_bundle.specs.Laws.{is_send_to}
use Rattle.pyr_emit.specs.Emission.{reads_it, writes_it, data_read, data_written, is_awaited, receive_of, receives, is_destination, sends_of, sends, block_at, places_on, code_on}
use Rattle.pyr_emit.proofs.Ranges.{range_below}
use Rattle.pyr_emit.proofs.SumLemmas.{one}
use Rattle.pyr_emit.proofs.CountLemmas.{task_below, home_below}

pub pieces_all : {X : Type 0} (Q : X → Type 0) (g : ℕ → List X) (xs : List ℕ) → All (λ x. All Q (g x)) xs → All Q (flat_map g xs)
pieces_all Q g [] all = All-nil Q
pieces_all Q g (x ∷ xs) all =
    All-append Q (g x) (flat_map g xs) (All-head (λ y. All Q (g y)) x xs all) (pieces_all Q g xs (All-tail (λ y. All Q (g y)) x xs all))

-- what passes a test has what each has, and passes
pub passing_all : (f : ℕ → Bool) (Q R : ℕ → Type 0) (xs : List ℕ) → All Q xs → ((x : ℕ) → Q x → f x ≡ true → R x) → All R (filter f xs)
passing_all f Q R xs all gives = λ k d inside.
    gives (get_or (filter f xs) k d) (All-filter f Q xs all k d inside) (filter_passes f xs k d inside)

-- where no element passes, none is counted
pub none_counted : {X : Type 0} (f : X → Bool) (xs : List X) → All (λ x. f x ≡ false) xs → count_by f xs ≡ 0
none_counted f [] all = refl
none_counted f (x ∷ xs) all =
    let here = ap one (All-head (λ y. f y ≡ false) x xs all) in
    omega (arith, sum_by-cons (λ y. one (f y)) x xs, none_counted f xs (All-tail (λ y. f y ≡ false) x xs all), here)

-- an instruction of p is about another processor that exists, a datum and a task that exist
abbrev pub IsFine : ℕ → ℕ → ℕ → ℕ → RawInstr → Type 0
IsFine processors tasks datums p (Recv from d) = (from < processors) × (from ≢ p) × (d < datums)
IsFine processors tasks datums p (Exec t) = t < tasks
IsFine processors tasks datums p (Send to d) = (to < processors) × (to ≢ p) × (d < datums)

module _ (s : System) (placement : Placement) (order : List ℕ) (graph : IsGraph s) (placed : IsPlaced s placement) (top : IsTopological (task_count s) (IsEdge s) order) where
  abbrev Fine : ℕ → RawInstr → Type 0
  Fine p instr = IsFine placement.processors (task_count s) (datum_count s) p instr

  receives_fine : (earlier : List ℕ) (t : ℕ) → All (Fine (processor_of placement t)) (receives s placement earlier t)
  receives_fine earlier t =
      All-map (Fine (processor_of placement t)) (receive_of s placement) (filter (is_awaited s placement earlier t) (data_read s t))
      (passing_all (is_awaited s placement earlier t) (λ d. d < datum_count s) (λ d. Fine (processor_of placement t) (receive_of s placement d)) (data_read s t)
      (All-filter (reads_it s t) (λ d. d < datum_count s) (range_with_len 0 (datum_count s)) (range_below (datum_count s)))
      (λ d inside awaited. (
        home_below s placement order graph placed top (writer_of s d) (graph.some_writer d inside).0,
        apart (processor_of placement (writer_of s d)) (processor_of placement t) (not-true (same_processor placement (writer_of s d) t) (and_parts (not (same_processor placement (writer_of s d) t)) _ awaited).0),
        inside,
      )))
    where
      apart : (a b : ℕ) → nat_eq a b ≡ false → a ≢ b
      apart a b e same = let f : true ≡ false = sym (eq-eqb a b same) ∙ e in cc

  sends_fine : (t : ℕ) → All (Fine (processor_of placement t)) (sends s placement order t)
  sends_fine t =
      pieces_all (Fine (processor_of placement t)) (sends_of s placement order t) (data_written s t)
      (All-weaker (λ d. d < datum_count s) (λ d. All (Fine (processor_of placement t)) (sends_of s placement order t d)) (λ d inside. of_datum d inside) (data_written s t)
      (All-filter (writes_it s t) (λ d. d < datum_count s) (range_with_len 0 (datum_count s)) (range_below (datum_count s))))
    where
      apart : (a b : ℕ) → nat_eq a b ≡ false → a ≢ b
      apart a b e same = let f : true ≡ false = sym (eq-eqb a b same) ∙ e in cc

      of_datum : (d : ℕ) → d < datum_count s → All (Fine (processor_of placement t)) (sends_of s placement order t d)
      of_datum d inside =
          All-map (Fine (processor_of placement t)) (λ q. Send q d) (filter (is_destination s placement order t d) (range_with_len 0 placement.processors))
          (passing_all (is_destination s placement order t d) (λ q. q < placement.processors) (λ q. Fine (processor_of placement t) (Send q d)) (range_with_len 0 placement.processors) (range_below placement.processors)
          (λ q q_in goes. (q_in, apart q (processor_of placement t) (not-true (nat_eq q (processor_of placement t)) (and_parts (not (nat_eq q (processor_of placement t))) _ goes).0), inside)))

  block_fine : (i : ℕ) → i < length order → All (Fine (processor_of placement (slice_index order i))) (block_at s placement order i)
  block_fine i inside =
      let t = slice_index order i in
      let Q : RawInstr → Type 0 = Fine (processor_of placement t) in
      All-append Q (receives s placement (take i order) t) (Exec t ∷ sends s placement order t) (receives_fine (take i order) t)
      (All-cons Q (Exec t) (sends s placement order t) (task_below s placement order graph placed top i inside) (sends_fine t))

  pub code_fine : (p : ℕ) → All (Fine p) (code_on s placement order p)
  code_fine p =
      pieces_all (Fine p) (block_at s placement order) (places_on placement order p)
      (passing_all (λ i. nat_eq (processor_of placement (slice_index order i)) p) (λ i. i < length order) (λ i. All (Fine p) (block_at s placement order i)) (range_with_len 0 (length order)) (range_below (length order))
      (λ i inside on. subst (λ q. All (Fine q) (block_at s placement order i)) (eqb-true (processor_of placement (slice_index order i)) p on) (block_fine i inside)))

  -- none sends to itself
  pub own_sends : (p : ℕ) → count_by (is_send_to p) (code_on s placement order p) ≡ 0
  own_sends p = none_counted (is_send_to p) (code_on s placement order p) (All-weaker (Fine p) (λ x. is_send_to p x ≡ false) other (code_on s placement order p) (code_fine p))
    where
      other : (x : RawInstr) → Fine p x → is_send_to p x ≡ false
      other (Recv from d) is = refl
      other (Exec t) is = refl
      other (Send to d) is = ne_eqb to p is.1
