-- The blocks of a plan, as they stand in its codes: the run of the blocks of the bundle is that of the plan.
use Rattle.std.proofs.Common.{◌≡◌, ◌≢◌, ℕ, zero, suc, ◌+◌, ◌<◌, ◌≤◌, ◌==◌, ◌||◌, Bool, true, false, cond, List, [], ◌∷◌, ◌++◌, append_assoc, length, length-append, map, ◌⊎◌, inl, inr, refl, sym, ap, ◌∙◌, subst, arith}
use Rattle.std.specs.Prelude.{All, nat_eq, slice_index, take}
use Rattle.std.specs.List.{filter, flat_map, list_any, range_with_len}
use Rattle.std.proofs.lemmas.Bool.{eq-eqb, eqb-true, or_left, or_right, or_cases}
use Rattle.std.proofs.lemmas.Bool.Decides.{eqb_tells}
use Rattle.std.proofs.lemmas.List.{map-append, length-map}
use Rattle.std.proofs.lemmas.List.Folds.{list_any-append}
use Rattle.std.proofs.lemmas.List.Elements.{All-head, All-tail, All-filter}
use Rattle.pyr_seq.specs.Walk.{IsTopological}
use Rattle.pyr_graph.specs.declared.placement.Placement.{Placement}
use Rattle.pyr_graph.specs.System.{System, task_count, IsEdge, writer_of}
use Rattle.pyr_graph.specs.Placements.{processor_of}
use Rattle.pyr_bundle.specs.declared.raw_instr.RawInstr.TheVariants.{Recv as RawRecv, Exec as RawExec, Send as RawSend}
use Rattle.pyr_bundle.specs.declared.instr.Instr.{Instr}
use Rattle.pyr_bundle.specs.declared.instr.Instr.TheVariants.{Recv, Exec, Send}
use Rattle.pyr_bundle.specs.Parts.{Parts, code_at, instr_of, task_id}
use Rattle.pyr_bundle.specs.WellFormed.{IsWellFormed}
use Rattle.pyr_machine.specs.Schedule.{again}
use Rattle.pyr_emit.specs.Emission.{data_read, data_written, is_awaited, is_destination, receives, sends, block_at, places_on, code_on}
use Rattle.pyr_emit.proofs.Ranges.{range_below}
use Rattle.pyr_size.specs.Blocks.{is_exec_of, leading_sends, block_size, home, block_turns, order_schedule}
use Rattle.pyr_size.proofs.Executed.{home_at}
use Rattle.pyr_compile.specs.PlanRun.{turns_at, plan_schedule}

-- sends alone
abbrev AreSends : List Instr → Type 0
AreSends [] = Unit {0}
AreSends (Recv from d ∷ code) = ⊥
AreSends (Exec t ∷ code) = ⊥
AreSends (Send to d ∷ code) = AreSends code

sends_append : (xs ys : List Instr) → AreSends xs → AreSends ys → AreSends (xs ++ ys)
sends_append [] ys h g = g
sends_append (Recv from d ∷ xs) ys h g = absurd h
sends_append (Exec t ∷ xs) ys h g = absurd h
sends_append (Send to d ∷ xs) ys h g = sends_append xs ys h g

leading_all : (xs ys : List Instr) → AreSends xs → leading_sends ys ≡ 0 → leading_sends (xs ++ ys) ≡ length xs
leading_all [] ys h e = e
leading_all (Recv from d ∷ xs) ys h e = absurd h
leading_all (Exec t ∷ xs) ys h e = absurd h
leading_all (Send to d ∷ xs) ys h e = let i = leading_all xs ys h e in omega (arith, i)

past_sends : (t : ℕ) (xs ys : List Instr) → AreSends xs → block_size t 0 (xs ++ ys) ≡ block_size t 0 ys
past_sends t [] ys h = refl
past_sends t (Recv from d ∷ xs) ys h = absurd h
past_sends t (Exec u ∷ xs) ys h = absurd h
past_sends t (Send to d ∷ xs) ys h = past_sends t xs ys h

some_sends : (d : ℕ) (qs : List ℕ) → AreSends (map instr_of (map (λ q. RawSend q d) qs))
some_sends d [] = tt
some_sends d (q ∷ qs) = some_sends d qs

all_sends : (g : ℕ → List ℕ) (ds : List ℕ) → AreSends (map instr_of (flat_map (λ d. map (λ q. RawSend q d) (g d)) ds))
all_sends g [] = tt
all_sends g (d ∷ ds) =
    subst AreSends (sym (map-append instr_of (map (λ q. RawSend q d) (g d)) (flat_map (λ e. map (λ q. RawSend q e) (g e)) ds)))
    (sends_append (map instr_of (map (λ q. RawSend q d) (g d))) _ (some_sends d (g d)) (all_sends g ds))

-- receives, and then other instructions
past_receives : (f : ℕ → ℕ) (t r : ℕ) (ds : List ℕ) (ys : List Instr) → block_size t r (map instr_of (map (λ d. RawRecv (f d) d) ds) ++ ys) ≡ block_size t (r + length ds) ys
past_receives f t r [] ys = ap (λ n. block_size t n ys) (let e : r ≡ r + 0 = omega arith in e)
past_receives f t r (d ∷ ds) ys = past_receives f t (r + 1) ds ys ∙ ap (λ n. block_size t n ys) (let e : r + 1 + length ds ≡ r + suc (length ds) = omega arith in e)

no_sends_first : (f : ℕ → ℕ) (ds : List ℕ) (u : ℕ) (ys : List Instr) → leading_sends (map instr_of (map (λ d. RawRecv (f d) d) ds) ++ Exec (task_id u) ∷ ys) ≡ 0
no_sends_first f [] u ys = refl
no_sends_first f (d ∷ ds) u ys = refl

in_filter : (f : ℕ → Bool) (a n i : ℕ) → a ≤ i → i < a + n → f i ≡ true → list_any (nat_eq i) (filter f (range_with_len a n)) ≡ true
in_filter f a zero i low high e = absurd (omega (arith, low, high))
in_filter f a (suc n) i low high e = at (f a) refl (eqb_tells i a) (λ l. in_filter f (a + 1) n i l (omega (arith, high)) e)
  where
    rest : List ℕ
    rest = filter f (range_with_len (a + 1) n)

    at : (c : Bool) → f a ≡ c → (((i == a) ≡ true) × (i ≡ a)) ⊎ (((i == a) ≡ false) × (i ≢ a)) → (a + 1 ≤ i → list_any (nat_eq i) rest ≡ true) → list_any (nat_eq i) (cond c (a ∷ rest) rest) ≡ true
    at true g (inl here) ih = or_left (i == a) (list_any (nat_eq i) rest) here.0
    at true g (inr there) ih = or_right (i == a) (list_any (nat_eq i) rest) (ih (let other = there.1 in omega (arith, low, other)))
    at false g (inl here) ih = absurd (let no' : true ≡ false = sym e ∙ ap f here.1 ∙ g in cc)
    at false g (inr there) ih = ih (let other = there.1 in omega (arith, low, other))

again_map : {X : Type 0} (p : ℕ) (xs : List X) → again (length xs) p ≡ map (λ x. p) xs
again_map p [] = refl
again_map p (x ∷ xs) = ap (λ l. p ∷ l) (again_map p xs)

pieces_by : (f g : ℕ → List ℕ) (xs : List ℕ) (k : ℕ) → ((i : ℕ) → i < length xs → f (slice_index xs i) ≡ g (k + i)) → flat_map f xs ≡ flat_map g (range_with_len k (length xs))
pieces_by f g [] k same = refl
pieces_by f g (x ∷ xs) k same =
    let first : f x ≡ g k = same 0 (omega arith) ∙ ap g (let e : k + 0 ≡ k = omega arith in e) in
    let rest = pieces_by f g xs (k + 1) (λ i l. same (suc i) (omega (arith, l)) ∙ ap g (let e : k + suc i ≡ k + 1 + i = omega arith in e)) in
    λ i. first i ++ rest i

module _ (s : System) (placement : Placement) (order : List ℕ) (top : IsTopological (task_count s) (IsEdge s) order) where
  abbrev task : ℕ → ℕ
  task i = slice_index order i

  abbrev from_of : ℕ → ℕ
  from_of d = processor_of placement (writer_of s d)

  -- the data that the block of a place receives
  abbrev awaited : ℕ → List ℕ
  awaited i = filter (is_awaited s placement (take i order) (task i)) (data_read s (task i))

  abbrev typed_receives : ℕ → List Instr
  typed_receives i = map instr_of (map (λ d. RawRecv (from_of d) d) (awaited i))

  abbrev typed_sends : ℕ → List Instr
  typed_sends i = map instr_of (sends s placement order (task i))

  are_sends : (i : ℕ) → AreSends (typed_sends i)
  are_sends i = all_sends (λ d. filter (is_destination s placement order (task i) d) (range_with_len 0 placement.processors)) (data_written s (task i))

  -- the code of these places
  abbrev coded : List ℕ → List Instr
  coded is = map instr_of (flat_map (block_at s placement order) is)

  coded_cons : (j : ℕ) (rest : List ℕ) → coded (j ∷ rest) ≡ typed_receives j ++ Exec (task_id (task j)) ∷ (typed_sends j ++ coded rest)
  coded_cons j rest =
      map-append instr_of (block_at s placement order j) (flat_map (block_at s placement order) rest)
      ∙ ap (λ l. l ++ coded rest) (map-append instr_of (receives s placement (take j order) (task j)) (RawExec (task j) ∷ sends s placement order (task j)))
      ∙ append_assoc (typed_receives j) (Exec (task_id (task j)) ∷ typed_sends j) (coded rest)

  starts : (is : List ℕ) → leading_sends (coded is) ≡ 0
  starts [] = refl
  starts (j ∷ rest) = ap leading_sends (coded_cons j rest) ∙ no_sends_first from_of (awaited j) (task j) (typed_sends j ++ coded rest)

  block_length : (i : ℕ) → length (block_at s placement order i) ≡ length (awaited i) + 1 + length (typed_sends i)
  block_length i =
      let whole = length-append (receives s placement (take i order) (task i)) (RawExec (task i) ∷ sends s placement order (task i)) in
      let front = length-map (awaited i) (λ d. RawRecv (from_of d) d) in
      let back = length-map (sends s placement order (task i)) instr_of in
      omega (arith, whole, front, back)

  size_in : (i : ℕ) (is : List ℕ) → i < length order → All (λ j. j < length order) is → list_any (nat_eq i) is ≡ true → block_size (task i) 0 (coded is) ≡ length (block_at s placement order i)
  size_in i [] inside all there = absurd (let no' : false ≡ true = there in cc)
  size_in i (j ∷ rest) inside all there =
      ap (block_size (task i) 0) (coded_cons j rest) ∙ past_receives from_of (task i) 0 (awaited j) (Exec (task_id (task j)) ∷ (typed_sends j ++ coded rest))
      ∙ at (eqb_tells (task j) (task i)) (size_in i rest inside (All-tail (λ k. k < length order) j rest all))
    where
      at : (((task j == task i) ≡ true) × (task j ≡ task i)) ⊎ (((task j == task i) ≡ false) × (task j ≢ task i)) → (list_any (nat_eq i) rest ≡ true → block_size (task i) 0 (coded rest) ≡ length (block_at s placement order i))
          → cond (task j == task i) (0 + length (awaited j) + 1 + leading_sends (typed_sends j ++ coded rest)) (block_size (task i) 0 (typed_sends j ++ coded rest)) ≡ length (block_at s placement order i)
      at (inl same) ih =
          let j_in : j < length order = All-head (λ k. k < length order) j rest all in
          let full = top.full in
          let one : j ≡ i = top.once j i (omega (arith, j_in, full)) (omega (arith, inside, full)) same.1 in
          let few = leading_all (typed_sends j) (coded rest) (are_sends j) (starts rest) in
          let size = block_length j in
          let is : 0 + length (awaited j) + 1 + leading_sends (typed_sends j ++ coded rest) ≡ length (block_at s placement order j) = omega (arith, few, size) in
          ap (λ c. cond c (0 + length (awaited j) + 1 + leading_sends (typed_sends j ++ coded rest)) (block_size (task i) 0 (typed_sends j ++ coded rest))) same.0
          ∙ is ∙ ap (λ k. length (block_at s placement order k)) one
      at (inr other) ih =
          ap (λ c. cond c (0 + length (awaited j) + 1 + leading_sends (typed_sends j ++ coded rest)) (block_size (task i) 0 (typed_sends j ++ coded rest))) other.0
          ∙ past_sends (task i) (typed_sends j) (coded rest) (are_sends j)
          ∙ ih (elim (or_cases (i == j) (list_any (nat_eq i) rest) there) [
            | inl here ↦ absurd (other.1 (ap task (sym (eqb-true i j here))))
            | inr later ↦ later
          ])

  exec_in : (i : ℕ) (is : List ℕ) → list_any (nat_eq i) is ≡ true → list_any (is_exec_of (task i)) (coded is) ≡ true
  exec_in i [] there = absurd (let no' : false ≡ true = there in cc)
  exec_in i (j ∷ rest) there =
      ap (list_any (is_exec_of (task i))) (coded_cons j rest)
      ∙ list_any-append (is_exec_of (task i)) (typed_receives j) (Exec (task_id (task j)) ∷ (typed_sends j ++ coded rest))
      ∙ or_right (list_any (is_exec_of (task i)) (typed_receives j)) _ (at (or_cases (i == j) (list_any (nat_eq i) rest) there) (exec_in i rest))
    where
      at : ((i == j) ≡ true) ⊎ (list_any (nat_eq i) rest ≡ true) → (list_any (nat_eq i) rest ≡ true → list_any (is_exec_of (task i)) (coded rest) ≡ true)
          → ((task j == task i) || list_any (is_exec_of (task i)) (typed_sends j ++ coded rest)) ≡ true
      at (inl here) ih = or_left (task j == task i) _ (eq-eqb (task j) (task i) (ap task (sym (eqb-true i j here))))
      at (inr later) ih =
          or_right (task j == task i) _
          (list_any-append (is_exec_of (task i)) (typed_sends j) (coded rest) ∙ or_right (list_any (is_exec_of (task i)) (typed_sends j)) (list_any (is_exec_of (task i)) (coded rest)) (ih later))

  module _ (b : Parts) (well : IsWellFormed b) (codes_are : (q : ℕ) → code_at b q ≡ map instr_of (code_on s placement order q)) where
    turn_is : (i : ℕ) → i < length order → block_turns b (task i) ≡ turns_at s placement order i
    turn_is i inside =
        ap (λ p. again (block_size (task i) 0 (code_at b p)) p) at_home
        ∙ ap (λ n. again n q) (ap (block_size (task i) 0) (codes_are q) ∙ size_in i (places_on placement order q) inside all there)
        ∙ again_map q (block_at s placement order i)
      where
        q : ℕ
        q = processor_of placement (task i)

        on_q : ℕ → Bool
        on_q k = nat_eq (processor_of placement (task k)) q

        there : list_any (nat_eq i) (places_on placement order q) ≡ true
        there = in_filter on_q 0 (length order) i (omega arith) (omega (arith, inside)) (eq-eqb q q refl)

        all : All (λ j. j < length order) (places_on placement order q)
        all = All-filter on_q (λ j. j < length order) (range_with_len 0 (length order)) (range_below (length order))

        at_home : home b (task i) ≡ q
        at_home = home_at b well (task i) q (ap (list_any (is_exec_of (task i))) (codes_are q) ∙ exec_in i (places_on placement order q) there)

    pub schedule_is : order_schedule b order ≡ plan_schedule s placement order
    schedule_is = pieces_by (block_turns b) (turns_at s placement order) order 0 (λ i l. turn_is i l ∙ ap (turns_at s placement order) (let e : i ≡ 0 + i = omega arith in e))
