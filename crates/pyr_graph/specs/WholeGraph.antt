-- What holds of every graph, and what a graph keeps beside its parts.
use Rattle.std.specs.Prelude.{◌≡◌, ◌≢◌, ℕ, ◌<◌, [], AllPairs, length, slice_index_or}
use Rattle.pyr_seq.specs.Walk.{IsTopological, HasCycle}
use Rattle.pyr_graph.specs.declared.index.Index.{Index}
use Rattle.pyr_graph.specs.System.{System, HoldsItsData, task_count, datum_count, task_numbers, datum_numbers, reads_of, writes_of, writer_of, IsWriter, IsEdge, ArePredecessors, AreSuccessors}
use Rattle.pyr_graph.specs.Bounds.{IsWithinLimits}
use Rattle.pyr_graph.specs.Removal.{IsSmallestFirst}

-- what holds of every graph
pub record IsGraph (s : System) : Type 0 where
  pub holds : HoldsItsData s
  pub some_task : 0 < task_count s
  pub limits : IsWithinLimits s
  pub reads_once : (t : ℕ) → AllPairs (λ d e. d ≢ e) (reads_of s t)
  pub writes_once : (t : ℕ) → AllPairs (λ d e. d ≢ e) (writes_of s t)
  pub prints_once : AllPairs (λ d e. d ≢ e) (datum_numbers s.prints)
  pub some_writer : (d : ℕ) → d < datum_count s → IsWriter s d (writer_of s d)
  pub one_writer : (d t : ℕ) → IsWriter s d t → t ≡ writer_of s d
  pub acyclic : HasCycle (IsEdge s) → ⊥

-- the index of a graph: the writer of each datum, the edges of each task, and the order
pub record IsIndex (s : System) (index : Index) : Type 0 where
  pub writers_full : length index.writers ≡ datum_count s
  pub writers : (d : ℕ) → d < datum_count s
      → (slice_index_or index.writers d (record { 0 = 0 })).0 ≡ writer_of s d
  pub predecessors_full : length index.predecessors ≡ task_count s
  pub predecessors : (t : ℕ) → t < task_count s
      → ArePredecessors s t (slice_index_or index.predecessors t [])
  pub successors_full : length index.successors ≡ task_count s
  pub successors : (t : ℕ) → t < task_count s
      → AreSuccessors s t (slice_index_or index.successors t [])
  pub topological : IsTopological (task_count s) (IsEdge s) (task_numbers index.order)
  pub smallest_first : IsSmallestFirst (task_count s) (IsEdge s) (task_numbers index.order)
