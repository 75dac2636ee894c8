-- What the private steps of building a graph leave. No public clause cites this.
use Rattle.std.specs.Prelude.{◌≡◌, ◌≢◌, ℕ, ◌+◌, ◌<◌, ◌≤◌, if◌then◌else◌, List, [], ◌∷◌, ◌++◌, nat_eq, All, Any, AllPairs, Contains, length, map, filter, sum_by, count_by, slice_index, slice_index_or}
use Rattle.pyr_num.specs.declared.ids.TaskId.{TaskId}
use Rattle.pyr_graph.specs.declared.edge.Edge.{Edge}
use Rattle.pyr_graph.specs.declared.parts.TaskParts.{TaskParts}
use Rattle.pyr_graph.specs.declared.fault.GraphFault.{GraphFault}
use Rattle.pyr_graph.specs.declared.fault.GraphFault.TheVariants.{TwoWriters, NoWriter, Cycle, Memory}
use Rattle.pyr_graph.specs.declared.writers.Writer.{Writer}
use Rattle.pyr_graph.specs.declared.writers.Writer.TheVariants.{Missing, Only, Several}
use Rattle.pyr_graph.specs.System.{writes_in, task_numbers}
use Rattle.pyr_graph.specs.Removal.{IsLeast, IsLeft, IsFoundCycle, IsSmallestFirst}

-- the writer of a datum, once this task is known to write it too
abbrev pub joined : Writer → TaskId → Writer
joined Missing t = Only t
joined (Only u) t = if nat_eq u.0 t.0 then Only u else Several
joined Several t = Several

-- what is known of the writers of a datum where these tasks are those that write it
abbrev pub Describes : (ℕ → Type 0) → Writer → Type 0
Describes Writes Missing = (t : ℕ) → Writes t → ⊥
Describes Writes (Only u) = Writes u.0 × ((t : ℕ) → Writes t → t ≡ u.0)
Describes Writes Several = (a : ℕ) × (b : ℕ) × (a ≢ b) × Writes a × Writes b

-- a task of this list writes the datum
abbrev pub IsWriterIn : List TaskParts → ℕ → ℕ → Type 0
IsWriterIn tasks d t = (t < length tasks) × Contains (writes_in tasks t) d

-- two tasks of this list write the datum
abbrev pub IsWrittenTwiceIn : List TaskParts → ℕ → Type 0
IsWrittenTwiceIn tasks d =
    (a : ℕ) × (b : ℕ) × (a ≢ b) × IsWriterIn tasks d a × IsWriterIn tasks d b

-- none of them writes the datum, which is one of so many
abbrev pub IsUnwrittenIn : List TaskParts → ℕ → ℕ → Type 0
IsUnwrittenIn tasks count d = (d < count) × ((t : ℕ) → IsWriterIn tasks d t → ⊥)

-- an edge to or from the task
abbrev pub edge_of : ℕ → ℕ → Edge
edge_of t weight = record { task = record { 0 = t }; weight = weight }

-- the edges of a row, where a datum of this weight is added to the edge to t
abbrev pub added : List Edge → ℕ → ℕ → List Edge
added [] t weight = edge_of t weight ∷ []
added (e ∷ []) t weight =
    if nat_eq e.task.0 t then edge_of t (e.weight + weight) ∷ [] else e ∷ edge_of t weight ∷ []
added (e ∷ f ∷ rest) t weight = e ∷ added (f ∷ rest) t weight

-- the task that writes the datum, by the table of the writers
abbrev pub writer_in : List TaskId → ℕ → ℕ
writer_in writers d = (slice_index_or writers d (record { 0 = 0 })).0

-- the writer of each datum, which no other task writes
pub record AreSoleWriters (tasks : List TaskParts) (count : ℕ) (writers : List TaskId) : Type 0
  where
    pub full : length writers ≡ count
    pub writes : (d : ℕ) → d < count → IsWriterIn tasks d (writer_in writers d)
    pub alone : (d t : ℕ) → d < count → IsWriterIn tasks d t → t ≡ writer_in writers d

-- Why some datum has no sole writer: the first that two tasks write, or else the first that none
-- writes. Want of memory may come at any point.
abbrev pub IsWriterCause : List TaskParts → ℕ → GraphFault → Type 0
IsWriterCause tasks count (TwoWriters datum) = IsLeast (IsWrittenTwiceIn tasks) datum.0
IsWriterCause tasks count (NoWriter datum) =
    ((d : ℕ) → IsWrittenTwiceIn tasks d → ⊥) × IsLeast (IsUnwrittenIn tasks count) datum.0
IsWriterCause tasks count Memory = Unit {0}
IsWriterCause tasks count _ = ⊥

-- the data of the list that the task writes
abbrev pub from_writer : (ℕ → ℕ) → ℕ → List ℕ → List ℕ
from_writer writer a list = filter (λ d. nat_eq (writer d) a) list

-- the row of the edges from a to the tasks below the count that read data of which it is the writer
pub record IsRow (writer comm : ℕ → ℕ) (reads : ℕ → List ℕ) (count a : ℕ) (row : List Edge)
    : Type 0 where
  pub sound : All (λ e. (e.task.0 < count)
      × (0 < length (from_writer writer a (reads e.task.0)))
      × (e.weight ≡ sum_by comm (from_writer writer a (reads e.task.0)))) row
  pub complete : (b : ℕ) → b < count → 0 < length (from_writer writer a (reads b))
      → Any (λ e. e.task.0 ≡ b) row
  pub rising : AllPairs (λ e f. e.task.0 < f.task.0) row

-- the edges from a task, as edges into another
abbrev pub turned : ℕ → List Edge → ℕ → List Edge
turned from row to = map (λ e. edge_of from e.weight) (filter (λ e. nat_eq e.task.0 to) row)

-- the same from each of these rows, numbered from the first number on
abbrev pub turned_from : ℕ → List (List Edge) → ℕ → List Edge
turned_from first [] to = []
turned_from first (row ∷ rows) to = turned first row to ++ turned_from (first + 1) rows to

-- a stands in the row of t
abbrev pub Precedes : List (List Edge) → ℕ → ℕ → Type 0
Precedes rows a t = Any (λ e. e.task.0 ≡ a) (slice_index_or rows t [])

-- the rows name tasks below the count alone, each row by rising task
pub record AreRows (count : ℕ) (rows : List (List Edge)) : Type 0 where
  pub full : length rows ≡ count
  pub tasks : (t : ℕ) → All (λ e. e.task.0 < count) (slice_index_or rows t [])
  pub rising : (t : ℕ) → AllPairs (λ e f. e.task.0 < f.task.0) (slice_index_or rows t [])

-- how often a task stands in a row
abbrev pub times_in : List Edge → ℕ → ℕ
times_in row t = count_by (λ e. nat_eq e.task.0 t) row

-- the same edges, seen from their other ends
abbrev pub AreOpposite : List (List Edge) → List (List Edge) → Type 0
AreOpposite forth back =
    (a b : ℕ) → times_in (slice_index_or forth a []) b ≡ times_in (slice_index_or back b []) a

-- a task that still waits for a predecessor
abbrev pub IsWaiting : List ℕ → ℕ → Type 0
IsWaiting pending t = 0 < slice_index pending t

-- The tasks were taken out one after another, each time the smallest that was ready, until none was.
-- Where some are left, each of them waits for one that is left too.
pub record AreTakenOut (rows : List (List Edge)) (order pending : List ℕ) : Type 0 where
  pub full : length pending ≡ length rows
  pub most : length order ≤ length rows
  pub first : IsSmallestFirst (length rows) (Precedes rows) order
  pub some_waits : length order < length rows → (t : ℕ) × IsWaiting pending t
  pub stuck : (t : ℕ) → IsWaiting pending t
      → (a : ℕ) × IsWaiting pending a × Precedes rows a t
  pub left : (t : ℕ) → IsLeft (length rows) (Precedes rows) t → IsWaiting pending t

-- Why there is no order: the cycle of the walk. Want of memory may come at any point.
abbrev pub IsCause : ℕ → (ℕ → ℕ → Type 0) → GraphFault → Type 0
IsCause count IsEdge (Cycle tasks) = IsFoundCycle (IsLeft count IsEdge) IsEdge (task_numbers tasks)
IsCause count IsEdge Memory = Unit {0}
IsCause count IsEdge _ = ⊥
