-- What holds of every task system.
use Rattle.std.specs.Prelude.{◌≡◌, ◌≢◌, ℕ, List, length}
use Rattle.pyr_seq.specs.Walk.{IsTopological, HasCycle}
use Rattle.pyr_graph.specs.System.{System, task_count, IsEdge}
use Rattle.pyr_graph.specs.Removal.{IsSmallestFirst}
use Rattle.pyr_graph.specs.Faults.{IsFault, IsSound}
use Rattle.pyr_graph.specs.declared.fault.GraphFault.{GraphFault}
use Rattle.pyr_graph.specs.declared.fault.GraphFault.TheVariants.{Memory}

-- an order of all tasks that always takes the smallest task that is ready is a topological order
abbrev pub SmallestFirstIsTopological : Type 0
SmallestFirstIsTopological =
    (s : System) (order : List ℕ) → length order ≡ task_count s
    → IsSmallestFirst (task_count s) (IsEdge s) order
    → IsTopological (task_count s) (IsEdge s) order

-- where the tasks have a topological order, the edges have no cycle
abbrev pub OrderedGraphsHaveNoCycle : Type 0
OrderedGraphsHaveNoCycle =
    (s : System) (order : List ℕ) → IsTopological (task_count s) (IsEdge s) order
    → HasCycle (IsEdge s) → ⊥

-- of one system one fault is told at most, want of memory apart, and none where the system is sound
abbrev pub OneFaultIsTold : Type 0
OneFaultIsTold =
    (s : System)
    → ((fault other : GraphFault) → fault ≢ Memory → other ≢ Memory
    → IsFault s fault → IsFault s other → fault ≡ other)
    × (IsSound s → (fault : GraphFault) → fault ≢ Memory → IsFault s fault → ⊥)
