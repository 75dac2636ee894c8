-- A task system: tasks that read and write data, the edges between them, and their weights.
-- Tasks and data are known by their numbers.
use Rattle.std.specs.Prelude.{◌≡◌, ℕ, ◌<◌, List, [], nat_eq, unwrap_or, map, position, All, Any, AllPairs, Contains, length, sum_by, filter, slice_index_or}
use Rattle.std.specs.List.{list_any}
use Rattle.pyr_num.specs.declared.ids.TaskId.{TaskId}
use Rattle.pyr_num.specs.declared.ids.DatumId.{DatumId}
use Rattle.pyr_graph.specs.declared.parts.TaskParts.{TaskParts}
use Rattle.pyr_graph.specs.declared.parts.DatumParts.{DatumParts}
use Rattle.pyr_graph.specs.declared.edge.Edge.{Edge}

pub record System : Type 0 where
  pub tasks : List TaskParts
  pub datums : List DatumParts
  pub prints : List DatumId

-- the system with these parts
abbrev pub system_of : List TaskParts → List DatumParts → List DatumId → System
system_of tasks datums prints = record { tasks = tasks; datums = datums; prints = prints }

-- the numbers of these tasks, of these data
abbrev pub task_numbers : List TaskId → List ℕ
task_numbers tasks = map (λ t. t.0) tasks

abbrev pub datum_numbers : List DatumId → List ℕ
datum_numbers datums = map (λ d. d.0) datums

abbrev pub task_count : System → ℕ
task_count s = length s.tasks

abbrev pub datum_count : System → ℕ
datum_count s = length s.datums

-- the task of this number; past the end, one that reads and writes nothing
abbrev pub task_in : List TaskParts → ℕ → TaskParts
task_in tasks t = slice_index_or tasks t (record { cost = 0; reads = []; writes = [] })

-- the data that a task of this list reads, and those that it writes
abbrev pub reads_in : List TaskParts → ℕ → List ℕ
reads_in tasks t = datum_numbers (task_in tasks t).reads

abbrev pub writes_in : List TaskParts → ℕ → List ℕ
writes_in tasks t = datum_numbers (task_in tasks t).writes

-- the task of this number, its computation weight, and the data that it reads and writes
abbrev pub task_at : System → ℕ → TaskParts
task_at s t = task_in s.tasks t

abbrev pub cost_of : System → ℕ → ℕ
cost_of s t = (task_at s t).cost

abbrev pub reads_of : System → ℕ → List ℕ
reads_of s t = reads_in s.tasks t

abbrev pub writes_of : System → ℕ → List ℕ
writes_of s t = writes_in s.tasks t

-- the datum of this number, its length and its communication weight
abbrev pub datum_in : List DatumParts → ℕ → DatumParts
datum_in datums d = slice_index_or datums d (record { length = 0; comm = 0 })

abbrev pub length_of : System → ℕ → ℕ
length_of s d = (datum_in s.datums d).length

abbrev pub comm_of : System → ℕ → ℕ
comm_of s d = (datum_in s.datums d).comm

-- the task writes the datum
abbrev pub IsWriter : System → ℕ → ℕ → Type 0
IsWriter s d t = (t < task_count s) × Contains (writes_of s t) d

-- the number of the first task that writes the datum, the only one in a graph
abbrev pub writer_of : System → ℕ → ℕ
writer_of s d = unwrap_or (position (λ t. list_any (nat_eq d) (datum_numbers t.writes)) s.tasks) 0

-- there is an edge (a, b) where b reads a datum that a writes
abbrev pub IsEdge : System → ℕ → ℕ → Type 0
IsEdge s a b = (d : ℕ) × Contains (writes_of s a) d × Contains (reads_of s b) d

-- the sum of the communication weights of the data that a writes and b reads
abbrev pub weight_of : System → ℕ → ℕ → ℕ
weight_of s a b =
    sum_by (comm_of s) (filter (λ d. list_any (nat_eq d) (writes_of s a)) (reads_of s b))

-- these are the edges out of t, by rising task
pub record AreSuccessors (s : System) (t : ℕ) (edges : List Edge) : Type 0 where
  pub sound : All (λ e. (e.task.0 < task_count s) × IsEdge s t e.task.0
      × (e.weight ≡ weight_of s t e.task.0)) edges
  pub complete : (b : ℕ) → b < task_count s → IsEdge s t b → Any (λ e. e.task.0 ≡ b) edges
  pub rising : AllPairs (λ e f. e.task.0 < f.task.0) edges

-- these are the edges into t, by rising task
pub record ArePredecessors (s : System) (t : ℕ) (edges : List Edge) : Type 0 where
  pub sound : All (λ e. (e.task.0 < task_count s) × IsEdge s e.task.0 t
      × (e.weight ≡ weight_of s e.task.0 t)) edges
  pub complete : (a : ℕ) → a < task_count s → IsEdge s a t → Any (λ e. e.task.0 ≡ a) edges
  pub rising : AllPairs (λ e f. e.task.0 < f.task.0) edges

-- every datum that is read, written or printed is one of the system
pub record HoldsItsData (s : System) : Type 0 where
  pub reads : (t : ℕ) → All (λ d. d.0 < datum_count s) (task_at s t).reads
  pub writes : (t : ℕ) → All (λ d. d.0 < datum_count s) (task_at s t).writes
  pub prints : All (λ d. d.0 < datum_count s) s.prints
