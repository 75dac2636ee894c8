-- What is wrong with the parts of a graph, and which fault is told.
use Rattle.std.specs.Prelude.{◌≡◌, ◌≢◌, ℕ, ◌<◌, if◌then◌else◌, Option, Some, None, List, [], ◌∷◌, ◌++◌, nat_eq, reverse}
use Rattle.std.specs.List.{list_any, flat_map}
use Rattle.std.specs.Option.{option_or}
use Rattle.pyr_seq.specs.Walk.{IsCycle, HasCycle}
use Rattle.pyr_graph.specs.declared.parts.TaskParts.{TaskParts}
use Rattle.pyr_graph.specs.declared.fault.GraphFault.{GraphFault}
use Rattle.pyr_graph.specs.declared.fault.GraphFault.TheVariants.{NoTask, Limit, Duplicate, TwoWriters, NoWriter, Cycle, Memory}
use Rattle.pyr_graph.specs.System.{System, task_count, datum_count, task_numbers, datum_numbers, IsWriter, IsEdge}
use Rattle.pyr_graph.specs.Bounds.{first_passed}
use Rattle.pyr_graph.specs.Removal.{IsLeast, IsLeft, IsFoundCycle}

-- of the data that stand twice in the list, the one that stands first
abbrev pub first_repeated : List ℕ → Option ℕ
first_repeated [] = None
first_repeated (d ∷ rest) = if list_any (nat_eq d) rest then Some d else first_repeated rest

-- the one of the first of these lists that has such a datum
abbrev pub first_repeated_of : List (List ℕ) → Option ℕ
first_repeated_of [] = None
first_repeated_of (list ∷ rest) = option_or (first_repeated list) (first_repeated_of rest)

-- the reads and the writes of a task
abbrev pub lists_of : TaskParts → List (List ℕ)
lists_of t = datum_numbers t.reads ∷ datum_numbers t.writes ∷ []

-- the first datum that stands twice in one list, by task, reads before writes, and the prints last
abbrev pub first_duplicate : System → Option ℕ
first_duplicate s = first_repeated_of (flat_map lists_of s.tasks ++ datum_numbers s.prints ∷ [])

-- two tasks write the datum
abbrev pub IsWrittenTwice : System → ℕ → Type 0
IsWrittenTwice s d = (a : ℕ) × (b : ℕ) × (a ≢ b) × IsWriter s d a × IsWriter s d b

-- no task writes the datum
abbrev pub IsUnwritten : System → ℕ → Type 0
IsUnwritten s d = (d < datum_count s) × ((t : ℕ) → IsWriter s d t → ⊥)

-- What is asked of the parts, one after another: a task, numbers within the limits, no datum twice
-- in a list, one writer at most and at least for each datum, and no cycle.
pub record IsWithin (s : System) : Type 0 where
  pub some_task : 0 < task_count s
  pub limits : first_passed s ≡ None

pub record IsDistinct (s : System) : Type 0 where
  pub within : IsWithin s
  pub once : first_duplicate s ≡ None

pub record IsSingle (s : System) : Type 0 where
  pub distinct : IsDistinct s
  pub one_writer : (d : ℕ) → IsWrittenTwice s d → ⊥

pub record IsWritten (s : System) : Type 0 where
  pub single : IsSingle s
  pub some_writer : (d : ℕ) → IsUnwritten s d → ⊥

pub record IsSound (s : System) : Type 0 where
  pub written : IsWritten s
  pub acyclic : HasCycle (IsEdge s) → ⊥

-- The fault is there, and no fault that is told before it. Want of memory may come at any point.
abbrev pub IsFault : System → GraphFault → Type 0
IsFault s NoTask = task_count s ≡ 0
IsFault s (Limit which) = (0 < task_count s) × (first_passed s ≡ Some which)
IsFault s (Duplicate datum) = IsWithin s × (first_duplicate s ≡ Some datum.0)
IsFault s (TwoWriters datum) = IsDistinct s × IsLeast (IsWrittenTwice s) datum.0
IsFault s (NoWriter datum) = IsSingle s × IsLeast (IsUnwritten s) datum.0
IsFault s (Cycle tasks) =
    IsWritten s
    × IsFoundCycle (IsLeft (task_count s) (IsEdge s)) (IsEdge s) (task_numbers tasks)
    × IsCycle (IsEdge s) (reverse (task_numbers tasks))
IsFault s Memory = Unit {0}
