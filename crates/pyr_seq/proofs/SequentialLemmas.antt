-- The values that the tasks leave are the one solution of the tasks' equations, whatever the order.
use Rattle.std.proofs.Common.{◌≡◌, ℕ, zero, suc, ◌<◌, Bool, true, false, None, List, [], ◌∷◌, inl, inr, refl, arith, ap, sym, ◌∙◌, length, get_or, eqb-true, eq-eqb}
use Rattle.std.specs.Prelude.{nat_eq, unwrap_or, map, Contains, All, ⊤, ◌||◌, Option, Some}
use Rattle.std.specs.List.{list_any, AllByRecursion}
use Rattle.std.proofs.lemmas.List.Elements.{recursion_from_All, All-from_recursion, All-from_get_or, All-weaker, All-contains}
use Rattle.std.proofs.lemmas.Bool.{cases_Bool}
use Rattle.std.proofs.lemmas.Cmp.{nat_eq_equiv}
use Rattle.std.proofs.lemmas.Map.Views.{Contains-from_any, list_any-from_Contains}
use Rattle.pyr_seq.specs.Walk.{IsTopological}
use Rattle.pyr_seq.specs.Sequential.{Tasks, Store, inputs_of, entry_at, run_task, run_all, values, value_of, outputs_of, IsEdgeOf, HasOneWriter, Solves}
use Rattle.pyr_seq.specs.Laws.{MakesLengths}

from_not_true : (b : Bool) → (b ≡ true → ⊥) → b ≡ false
from_not_true true h = absurd (h refl)
from_not_true false h = refl

or-right : (p q : Bool) → q ≡ true → (p || q) ≡ true
or-right true q is = refl
or-right false q is = is

-- what is alike for each datum is alike for the data of a list
pub map_alike : (f g : ℕ → List ℕ) → ((d : ℕ) → f d ≡ g d) → (ds : List ℕ) → map f ds ≡ map g ds
map_alike f g each [] = refl
map_alike f g each (d ∷ ds) = λ i. each d i ∷ map_alike f g each ds i

module _ (tasks : Tasks) where
  -- whether the task writes the datum, reads it
  abbrev pub Writes : ℕ → ℕ → Bool
  Writes t d = list_any (nat_eq d) (tasks.writes t)

  abbrev pub Reads : ℕ → ℕ → Bool
  Reads t d = list_any (nat_eq d) (tasks.reads t)

  -- u writes nothing that t writes, and nothing that t reads
  pub record Apart (t u : ℕ) : Type 0 where
    written : (d : ℕ) → Writes t d ≡ true → Writes u d ≡ false
    read : (d : ℕ) → Reads t d ≡ true → Writes u d ≡ false

  -- an order in which no later task disturbs an earlier one, and none reads what it writes
  abbrev pub IsOrdered : List ℕ → Type 0
  IsOrdered [] = ⊤
  IsOrdered (t ∷ rest) = ((d : ℕ) → Reads t d ≡ true → Writes t d ≡ false) × AllByRecursion (Apart t) rest × IsOrdered rest

  -- the task's outputs in the store are those of its inputs there
  abbrev pub Holds : Store → ℕ → Type 0
  Holds store t = (d : ℕ) → Writes t d ≡ true → store d ≡ entry_at (tasks.writes t) (tasks.outputs t (inputs_of tasks store t)) d

  -- what no task writes stays
  pub run_all-other : (rest : List ℕ) (d : ℕ) (store : Store) → AllByRecursion (λ u. Writes u d ≡ false) rest → run_all tasks rest store d ≡ store d
  run_all-other [] d store none = refl
  run_all-other (u ∷ rest) d store none = run_all-other rest d (run_task tasks u store) none.1 ∙ rw none.0

  map-same : (ds : List ℕ) (one two : Store) → ((d : ℕ) → list_any (nat_eq d) ds ≡ true → one d ≡ two d) → map (λ d. unwrap_or (one d) []) ds ≡ map (λ d. unwrap_or (two d) []) ds
  map-same [] one two same = refl
  map-same (d ∷ ds) one two same =
      rw (same d (rw (eq-eqb d d refl)), map-same ds one two (λ q h. same q (or-right (nat_eq q d) (list_any (nat_eq q) ds) h)))

  weaker : (P Q : ℕ → Type 0) → ((u : ℕ) → P u → Q u) → (xs : List ℕ) → AllByRecursion P xs → AllByRecursion Q xs
  weaker P Q gives [] all = tt
  weaker P Q gives (x ∷ xs) all = (gives x all.0, weaker P Q gives xs all.1)

  -- the last store solves the equation of each task
  pub run_all-holds : (order : List ℕ) (store : Store) → IsOrdered order → AllByRecursion (Holds (run_all tasks order store)) order
  run_all-holds [] store ordered = tt
  run_all-holds (t ∷ rest) store ordered = (here, run_all-holds rest (run_task tasks t store) ordered.2)
    where
      kept : (d : ℕ) → Reads t d ≡ true → store d ≡ run_all tasks rest (run_task tasks t store) d
      kept d is =
          let after = run_all-other rest d (run_task tasks t store) (weaker (Apart t) (λ u. Writes u d ≡ false) (λ u apart. apart.read d is) rest ordered.1) in
          sym (after ∙ rw (ordered.0 d is))

      here : Holds (run_all tasks rest (run_task tasks t store)) t
      here d is =
          let after = run_all-other rest d (run_task tasks t store) (weaker (Apart t) (λ u. Writes u d ≡ false) (λ u apart. apart.written d is) rest ordered.1) in
          let inputs = map-same (tasks.reads t) store (run_all tasks rest (run_task tasks t store)) kept in
          after ∙ rw (is, inputs)

  -- two stores that solve the equations, and agree where no task writes, agree
  same_from_holds : (order : List ℕ) (one two : Store) → IsOrdered order → AllByRecursion (Holds one) order → AllByRecursion (Holds two) order
      → ((d : ℕ) → AllByRecursion (λ u. Writes u d ≡ false) order → one d ≡ two d) → (d : ℕ) → one d ≡ two d
  same_from_holds [] one two ordered left right base = λ d. base d tt
  same_from_holds (t ∷ rest) one two ordered left right base = same_from_holds rest one two ordered.2 left.1 right.1 base'
    where
      inputs : inputs_of tasks one t ≡ inputs_of tasks two t
      inputs = map-same (tasks.reads t) one two (λ d is. base d (ordered.0 d is, weaker (Apart t) (λ u. Writes u d ≡ false) (λ u apart. apart.read d is) rest ordered.1))

      go : (d : ℕ) (b : Bool) → Writes t d ≡ b → AllByRecursion (λ u. Writes u d ≡ false) rest → one d ≡ two d
      go d false is none = base d (is, none)
      go d true is none = left.0 d is ∙ (ap (λ words. entry_at (tasks.writes t) (tasks.outputs t words) d) inputs ∙ sym (right.0 d is))

      base' : (d : ℕ) → AllByRecursion (λ u. Writes u d ≡ false) rest → one d ≡ two d
      base' d none = go d (Writes t d) refl none

  -- a topological order is one
  IsOrdered-from_pairs : (xs : List ℕ)
      → ((i j : ℕ) → i < j → j < length xs → Apart (get_or xs i 0) (get_or xs j 0))
      → ((i : ℕ) → i < length xs → (d : ℕ) → Reads (get_or xs i 0) d ≡ true → Writes (get_or xs i 0) d ≡ false)
      → IsOrdered xs
  IsOrdered-from_pairs [] pairs self = tt
  IsOrdered-from_pairs (t ∷ rest) pairs self = (
    self zero (omega arith),
    recursion_from_All (Apart t) rest (All-from_get_or (Apart t) rest 0 (λ i h. pairs zero (suc i) (omega arith) (omega arith))),
    IsOrdered-from_pairs rest (λ i j h k. pairs (suc i) (suc j) (omega arith) (omega arith)) (λ i h. self (suc i) (omega arith)),
  )

  module _ (one_writer : HasOneWriter tasks) (order : List ℕ) (top : IsTopological tasks.count (IsEdgeOf tasks) order) where
    contains : (ds : List ℕ) (d : ℕ) → list_any (nat_eq d) ds ≡ true → Contains ds d
    contains ds d is = Contains-from_any eqb-true d ds is

    task_in : (i : ℕ) → i < length order → get_or order i 0 < tasks.count
    task_in i h = top.tasks i 0 h

    pub IsOrdered-topological : IsOrdered order
    IsOrdered-topological = IsOrdered-from_pairs order apart self
      where
        apart : (i j : ℕ) → i < j → j < length order → Apart (get_or order i 0) (get_or order j 0)
        apart i j h k = record {
          written = λ d is. from_not_true (Writes (get_or order j 0) d) (λ also.
              let same = one_writer (get_or order i 0) (get_or order j 0) d (task_in i (omega arith)) (task_in j k) (contains (tasks.writes (get_or order i 0)) d is) (contains (tasks.writes (get_or order j 0)) d also) in
              let place = top.once i j (omega (arith, top.full)) (omega (arith, top.full)) same in
              omega (arith, place));
          read = λ d is. from_not_true (Writes (get_or order j 0) d) (λ also.
              let back = top.before j i (omega (arith, top.full)) (omega (arith, top.full)) (d, contains (tasks.writes (get_or order j 0)) d also, contains (tasks.reads (get_or order i 0)) d is) in
              omega (arith, back));
        }

        self : (i : ℕ) → i < length order → (d : ℕ) → Reads (get_or order i 0) d ≡ true → Writes (get_or order i 0) d ≡ false
        self i h d is = from_not_true (Writes (get_or order i 0) d) (λ also.
            let back = top.before i i (omega (arith, top.full)) (omega (arith, top.full)) (d, contains (tasks.writes (get_or order i 0)) d also, contains (tasks.reads (get_or order i 0)) d is) in
            omega (arith, back))

  -- what holds of each task of one topological order holds of each of another
  all_moved : (P : ℕ → Type 0) (order other : List ℕ) → IsTopological tasks.count (IsEdgeOf tasks) order → IsTopological tasks.count (IsEdgeOf tasks) other
      → AllByRecursion P order → AllByRecursion P other
  all_moved P order other top top' all =
      let each : All P order = All-from_recursion P order all in
      recursion_from_All P other (All-weaker (λ t. t < tasks.count) P (λ t t_in. All-contains P order t each (top.each t t_in)) other top'.tasks)

  pub values-same : (order other : List ℕ) → HasOneWriter tasks → IsTopological tasks.count (IsEdgeOf tasks) order → IsTopological tasks.count (IsEdgeOf tasks) other
      → (d : ℕ) → values tasks order d ≡ values tasks other d
  values-same order other one_writer top top' =
      same_from_holds order (values tasks order) (values tasks other)
      (IsOrdered-topological one_writer order top)
      (run_all-holds order (λ _. None) (IsOrdered-topological one_writer order top))
      (all_moved (Holds (values tasks other)) other order top' top (run_all-holds other (λ _. None) (IsOrdered-topological one_writer other top')))
      (λ d none. run_all-other order d (λ _. None) none ∙ sym (run_all-other other d (λ _. None) (all_moved (λ u. Writes u d ≡ false) order other top top' none)))

  -- so are the words of any data
  pub outputs-same : (order other : List ℕ) → HasOneWriter tasks → IsTopological tasks.count (IsEdgeOf tasks) order → IsTopological tasks.count (IsEdgeOf tasks) other
      → (ds : List ℕ) → outputs_of tasks order ds ≡ outputs_of tasks other ds
  outputs-same order other one_writer top top' =
      map_alike (value_of tasks order) (value_of tasks other) (λ d. ap (λ (o : Option (List ℕ)). unwrap_or o []) (values-same order other one_writer top top' d))

  -- the values solve the equation of each task
  pub values-holds : (order : List ℕ) → HasOneWriter tasks → IsTopological tasks.count (IsEdgeOf tasks) order → (t : ℕ) → t < tasks.count → Holds (values tasks order) t
  values-holds order one_writer top t h =
      let each : All (Holds (values tasks order)) order =
      All-from_recursion (Holds (values tasks order)) order (run_all-holds order (λ _. None) (IsOrdered-topological one_writer order top)) in
      All-contains (Holds (values tasks order)) order t each (top.each t h)

  -- the same, of what it writes by its list
  pub values-solve : (order : List ℕ) → HasOneWriter tasks → IsTopological tasks.count (IsEdgeOf tasks) order → (t : ℕ) → t < tasks.count → Solves tasks (values tasks order) t
  values-solve order one_writer top t h d held =
      values-holds order one_writer top t h d (list_any-from_Contains nat_eq_equiv d (tasks.writes t) held)

  -- a datum among those written has an entry, of its length
  entry_at-lengths : (length_of : ℕ → ℕ) (written : List ℕ) (words : List (List ℕ)) (d : ℕ) → map length words ≡ map length_of written → list_any (nat_eq d) written ≡ true
      → (list : List ℕ) × (entry_at written words d ≡ Some list) × (length list ≡ length_of d)
  entry_at-lengths length_of [] words d same is = absurd (let e : false ≡ true = is in cc)
  entry_at-lengths length_of (w ∷ written) [] d same is = absurd (cc)
  entry_at-lengths length_of (w ∷ written) (list ∷ words) d same is = elim (cases_Bool (nat_eq d w)) [
    | inl here ↦ (
        let long : length list ≡ length_of w = cc in
        let equal : d ≡ w = eqb-true d w here in
        (list, rw here, long ∙ ap length_of (sym equal)))
    | inr apart ↦ (
        let rest : map length words ≡ map length_of written = cc in
        let there : list_any (nat_eq d) written ≡ true = rw apart at is in
        let (found, at, long) = entry_at-lengths length_of written words d rest there in
        (found, rw apart at, long))
  ]

  -- each datum that is written has a value, of its length
  pub values-lengths : (length_of : ℕ → ℕ) (order : List ℕ) → HasOneWriter tasks → IsTopological tasks.count (IsEdgeOf tasks) order → MakesLengths tasks length_of
      → (t d : ℕ) → t < tasks.count → Contains (tasks.writes t) d
      → (values tasks order d ≡ Some (value_of tasks order d)) × (length (value_of tasks order d) ≡ length_of d)
  values-lengths length_of order one_writer top makes t d t_in held =
      let store = values tasks order in
      let is = list_any-from_Contains nat_eq_equiv d (tasks.writes t) held in
      let (list, at, long) = entry_at-lengths length_of (tasks.writes t) (tasks.outputs t (inputs_of tasks store t)) d (makes t (inputs_of tasks store t) t_in) is in
      let found : values tasks order d ≡ Some list = values-solve order one_writer top t t_in d held ∙ at in
      let word : value_of tasks order d ≡ list = ap (λ (o : Option (List ℕ)). unwrap_or o []) found in
      (found ∙ ap Some (sym word), ap length word ∙ long)
