-- The parallel time as the greatest of three numbers.
use Rattle.std.specs.Prelude.{◌≡◌, ℕ, Bool, max, not, ◌&&◌, Option, Some, None, List, [], filter}
use Rattle.std.specs.List.{list_any}
use Rattle.pyr_seq.specs.Walk.{IsTopological}
use Rattle.pyr_graph.specs.declared.clustering.Step.{Step}
use Rattle.pyr_graph.specs.System.{System, task_count, IsEdge}
use Rattle.pyr_graph.specs.Numbers.{greatest}
use Rattle.pyr_graph.specs.Edges.{has_edge}
use Rattle.pyr_levels.specs.Path.{IsParallelTime}
use Rattle.pyr_levels.specs.Levels.{AreBlevels}
use Rattle.pyr_levels.specs.Scheduled.{scheduled_graph, AreTlevels}
use Rattle.pyr_dsc.specs.State.{State, all_tasks, finish, is_examined, priority, partial_priority}
use Rattle.pyr_dsc.specs.Rules.{next_free, next_partly_free}
use Rattle.pyr_dsc.specs.Run.{state, AreSteps}

-- the key of a number, where a missing one counts as 0
abbrev pub key_of : (ℕ → ℕ) → Option ℕ → ℕ
key_of key None = 0
key_of key (Some t) = key t

-- the greater priority of the next free and of the next partly free task
abbrev pub greatest_head : State → ℕ
greatest_head z =
    max (key_of (priority z) (next_free z)) (key_of (partial_priority z) (next_partly_free z))

-- the latest finish of an examined task
abbrev pub latest_finish : State → ℕ
latest_finish z = greatest (finish z) (filter (is_examined z) (all_tasks z))

abbrev pub greatest_of_three : State → ℕ
greatest_of_three z = max (latest_finish z) (greatest_head z)

-- an exit is a task from which nobody reads
abbrev pub is_exit : State → ℕ → Bool
is_exit z t = not (list_any (has_edge z.system t) (all_tasks z))

-- the latest finish of an examined exit
abbrev pub latest_exit : State → ℕ
latest_exit z = greatest (finish z) (filter (λ t. is_examined z t && is_exit z t) (all_tasks z))

-- After any steps from no cluster on, the parallel time is the greatest of the latest finish and of
-- the two priorities.
abbrev pub TimeIsOfThree : Type 0
TimeIsOfThree =
    (s : System) (order blevels : List ℕ) (steps : List Step) (clusters : List (List ℕ))
    (tlevels : List ℕ) (time : ℕ)
    → IsTopological (task_count s) (IsEdge s) order
    → AreBlevels s blevels
    → AreSteps s blevels [] steps clusters
    → AreTlevels s clusters tlevels
    → IsParallelTime (scheduled_graph s clusters) time
    → time ≡ greatest_of_three (state s blevels clusters tlevels)

-- In it the exits stand for all examined tasks.
abbrev pub ExitsDecide : Type 0
ExitsDecide =
    (s : System) (order blevels : List ℕ) (steps : List Step) (clusters : List (List ℕ))
    (tlevels : List ℕ)
    → IsTopological (task_count s) (IsEdge s) order
    → AreBlevels s blevels
    → AreSteps s blevels [] steps clusters
    → AreTlevels s clusters tlevels
    → greatest_of_three (state s blevels clusters tlevels)
    ≡ max (latest_exit (state s blevels clusters tlevels))
    (greatest_head (state s blevels clusters tlevels))
