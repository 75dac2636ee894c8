-- What the tasks of a program, run one by one, come to: the values do not depend on the order.
use Rattle.std.specs.Prelude.{◌≡◌, ℕ, ◌<◌, List, [], length, slice_index_or}
use Rattle.pyr_seq.specs.Walk.{IsTopological}
use Rattle.pyr_seq.specs.Sequential.{values, value_of, outputs_of}
use Rattle.pyr_graph.specs.WholeGraph.{IsGraph}
use Rattle.pyr_graph.specs.System.{System, task_count, datum_count, datum_numbers, IsEdge}
use Rattle.pyr_graphtext.specs.Program.{ProgramParts, tasks_of}

-- an order of all tasks in which each stands behind those whose data it reads
abbrev pub IsOrder : System → List ℕ → Type 0
IsOrder graph = IsTopological (task_count graph) (IsEdge graph)

-- the words of each datum, by number, are its value
pub record AreValues (p : ProgramParts) (frame : ℕ) (table : List (List ℕ)) : Type 0 where
  pub full : length table ≡ datum_count p.graph
  pub each : (order : List ℕ) → IsOrder p.graph order → (d : ℕ) → d < datum_count p.graph
      → slice_index_or table d [] ≡ value_of (tasks_of p frame) order d

-- the printed words are those of the tasks run one by one, whichever topological order they run in
abbrev pub AreOutputs : ProgramParts → ℕ → List (List ℕ) → Type 0
AreOutputs p frame lists =
    (order : List ℕ) → IsOrder p.graph order
    → lists ≡ outputs_of (tasks_of p frame) order (datum_numbers p.graph.prints)

-- Any two topological orders of a program's graph give each datum the same value.
abbrev pub AnyOrderGivesTheValues : Type 0
AnyOrderGivesTheValues =
    (p : ProgramParts) (frame : ℕ) (order other : List ℕ) → IsGraph p.graph
    → IsOrder p.graph order → IsOrder p.graph other
    → (d : ℕ) → values (tasks_of p frame) order d ≡ values (tasks_of p frame) other d
