-- The tasks and data of the generated graph, by number.
use Rattle.std.proofs.Common.{◌≡◌, ℕ, zero, suc, ◌-◌, ◌<◌, inl, inr, List, [], ◌∷◌, length, arith, refl, sym, ◌∙◌, subst}
use Rattle.std.specs.Prelude.{All, Contains}
use Rattle.std.proofs.lemmas.Bool.{cases_lt}
use Rattle.std.proofs.lemmas.List.{get_or_past}
use Rattle.std.proofs.lemmas.List.Elements.{All-contains, All-from_recursion}
use Rattle.pyr_seq.specs.Walk.{HasCycle}
use Rattle.pyr_seq.proofs.WalkLemmas.{IsWalk-rises}
use Rattle.pyr_graph.specs.declared.parts.TaskParts.{TaskParts}
use Rattle.pyr_graph.specs.System.{HoldsItsData, task_count, datum_count, task_at, datum_numbers, reads_of, writes_of, IsEdge}
use Rattle.pyr_graph.specs.Faults.{IsWrittenTwice, IsUnwritten}
use Rattle.pyr_graph.proofs.SoundLemmas.{HoldsItsData-from_lists}
use Rattle.pyr_make.specs.Layered.{layered_task, layered_datum, layered_reads, layered_prints, layered_system, as_datums}
use Rattle.pyr_make.proofs.RuleLemmas.{reads_are, numbers-as_datums, datums_below, below_weaker}
use Rattle.pyr_make.proofs.MadeLists.{made_length, made_at, made_all}
use Rattle.pyr_make.proofs.PrintLemmas.{last_layer_from, prints-range, range_below}

no_element : (d : ℕ) → Contains {X = ℕ} [] d → ⊥
no_element d (k, inside, at) = omega (arith, inside)

only_element : (x d : ℕ) → Contains (x ∷ []) d → x ≡ d
only_element x d (zero, inside, at) = at
only_element x d (suc k, inside, at) = absurd (omega (arith, inside))

abbrev no_task : TaskParts
no_task = record { cost = 0; reads = []; writes = [] }

module _ (n : ℕ) where
  pub tasks_counted : task_count (layered_system n) ≡ n
  tasks_counted = made_length layered_task n

  pub datums_counted : datum_count (layered_system n) ≡ n
  datums_counted = made_length layered_datum n

  pub task_is : (t : ℕ) → t < n → task_at (layered_system n) t ≡ layered_task t
  task_is t inside = made_at layered_task n t no_task inside

  -- what holds of a task by the rule, and of none, holds of each number
  task_cases : (P : ℕ → TaskParts → Type 0) → ((t : ℕ) → P t no_task) → ((t : ℕ) → t < n → P t (layered_task t)) → (t : ℕ) → P t (task_at (layered_system n) t)
  task_cases P none each t = elim (cases_lt t n) [
    | inl inside ↦ rw (task_is t inside) (each t inside)
    | inr past ↦ rw (get_or_past (layered_system n).tasks t no_task (omega (arith, tasks_counted))) (none t)
  ]

  -- a task writes the datum of its number alone, and reads those of smaller numbers
  pub writes_own : (t d : ℕ) → Contains (writes_of (layered_system n) t) d → t ≡ d
  writes_own t d = task_cases (λ t task. Contains (datum_numbers task.writes) d → t ≡ d) (λ t held. absurd (no_element d held)) (λ t inside held. only_element t d held) t

  pub reads_smaller : (t d : ℕ) → Contains (reads_of (layered_system n) t) d → d < t
  reads_smaller t d = task_cases (λ t task. Contains (datum_numbers task.reads) d → d < t) (λ t held. absurd (no_element d held))
      (λ t inside held. All-contains (λ (d : ℕ). d < t) (layered_reads t) d (All-from_recursion (λ (d : ℕ). d < t) (layered_reads t) (reads_are t).below)
      (subst (λ (xs : List ℕ). Contains xs d) (numbers-as_datums (layered_reads t)) held)) t

  -- so edges rise, and no cycle is there
  edge_rises : (a b : ℕ) → IsEdge (layered_system n) a b → a < b
  edge_rises a b (d, written, read) =
      let own = writes_own a d written in
      let smaller = reads_smaller b d read in
      omega (arith, own, smaller)

  pub acyclic : HasCycle (IsEdge (layered_system n)) → ⊥
  acyclic ([], none) = none
  acyclic (t ∷ rest, walk) =
      let less : t < t = IsWalk-rises (IsEdge (layered_system n)) (λ a b. a < b) edge_rises (λ a b c one two. omega arith) t rest t walk in
      omega (arith, less)

  -- each datum has one writer
  pub none_written_twice : (d : ℕ) → IsWrittenTwice (layered_system n) d → ⊥
  none_written_twice d (a, b, apart, is_a, is_b) = apart (writes_own a d is_a.1 ∙ sym (writes_own b d is_b.1))

  pub none_unwritten : (d : ℕ) → IsUnwritten (layered_system n) d → ⊥
  none_unwritten d (inside, none) =
      let d_in : d < n = omega (arith, inside, datums_counted) in
      none d (omega (arith, d_in, tasks_counted), rw (task_is d d_in) (0, omega arith, refl))

  -- every datum that is named is one of the graph
  pub prints_held : 0 < n → All (λ d. d.0 < n) (as_datums (layered_prints n))
  prints_held some =
      datums_below n (layered_prints n) (rw (prints-range n some) (range_below (last_layer_from n) (n - last_layer_from n) n (omega arith)))

  pub holds_its_data : 0 < n → HoldsItsData (layered_system n)
  holds_its_data some =
      let count : n ≡ length (layered_system n).datums = sym datums_counted in
      HoldsItsData-from_lists (layered_system n).tasks (layered_system n).datums (layered_system n).prints
      (made_all layered_task n (λ t. All (λ d. d.0 < length (layered_system n).datums) t.reads × All (λ d. d.0 < length (layered_system n).datums) t.writes)
      (λ t inside. (
        rw (← count) (datums_below n (layered_reads t) (below_weaker t n (layered_reads t) (omega arith) (reads_are t).below)),
        rw (← count) (datums_below n (t ∷ []) (inside, tt)),
      )))
      (rw (← count) (prints_held some))
