-- The tasks of the cycle that is told are tasks of the system.
use Rattle.std.proofs.Common.{ℕ, ◌<◌, List, [], ◌∷◌, ◌++◌}
use Rattle.std.specs.Prelude.{All}
use Rattle.std.specs.List.{AllByRecursion}
use Rattle.std.proofs.lemmas.List.Elements.{All-from_recursion}
use Rattle.pyr_num.specs.declared.ids.TaskId.{TaskId}
use Rattle.pyr_seq.specs.Walk.{IsWalk}
use Rattle.pyr_seq.proofs.WalkLemmas.{IsWalk-end}
use Rattle.pyr_graph.specs.Removal.{IsLeft, IsStepBack, IsFoundCycle}
use Rattle.pyr_graph.specs.System.{System, task_count, task_numbers, IsEdge}
use Rattle.pyr_graph.specs.Faults.{IsFault}
use Rattle.pyr_graph.specs.declared.fault.GraphFault.TheVariants as graph_faults

module _ (Left : ℕ → Type 0) (Edge : ℕ → ℕ → Type 0) where
  -- each task of a walk back but the first is one that is left
  steps_left : (t : ℕ) (rest : List ℕ) → IsWalk (IsStepBack Left Edge) (t ∷ rest) → AllByRecursion Left rest
  steps_left t [] w = tt
  steps_left t (u ∷ rest) w = (w.0.has.0, steps_left u rest w.1)

  front_left : (xs ys : List ℕ) → AllByRecursion Left (xs ++ ys) → AllByRecursion Left xs
  front_left [] ys all = tt
  front_left (x ∷ xs) ys all = (all.0, front_left xs ys all.1)

  last_left : (xs : List ℕ) (t : ℕ) → AllByRecursion Left (xs ++ t ∷ []) → Left t
  last_left [] t all = all.0
  last_left (x ∷ xs) t all = last_left xs t all.1

  -- so each task of the cycle
  pub cycle_left : (tasks : List ℕ) → IsFoundCycle Left Edge tasks → AllByRecursion Left tasks
  cycle_left [] found = absurd found
  cycle_left (t ∷ rest) found =
      let back : IsWalk (IsStepBack Left Edge) (t ∷ (rest ++ t ∷ [])) = IsWalk-end (IsStepBack Left Edge) found.0 t (rest ++ t ∷ []) found.2 in
      let all = steps_left t (rest ++ t ∷ []) back in
      (last_left rest t all, front_left rest (t ∷ []) all)

below : (s : System) (tasks : List TaskId) → AllByRecursion (IsLeft (task_count s) (IsEdge s)) (task_numbers tasks) → AllByRecursion (λ t. t.0 < task_count s) tasks
below s [] all = tt
below s (t ∷ tasks) all = (all.0.0, below s tasks all.1)

pub cycle_below : (s : System) (tasks : List TaskId) → IsFault s (graph_faults.Cycle tasks) → All (λ t. t.0 < task_count s) tasks
cycle_below s tasks fault = All-from_recursion (λ t. t.0 < task_count s) tasks (below s tasks (cycle_left (IsLeft (task_count s) (IsEdge s)) (IsEdge s) (task_numbers tasks) fault.1))
