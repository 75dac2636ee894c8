-- What the steps of building a graph give together.
use Rattle.std.proofs.Common.{◌≡◌, ℕ, ◌^◌, ◌<◌, arith, List, [], length, get_or, sym, ◌∙◌}
use Rattle.std.specs.Prelude.{reverse}
use Rattle.std.proofs.lemmas.List.Elements.{All-contains, All-map}
use Rattle.pyr_num.specs.declared.ids.TaskId.{TaskId}
use Rattle.pyr_num.specs.declared.ids.DatumId.{DatumId}
use Rattle.pyr_seq.specs.Walk.{IsCycle, HasCycle}
use Rattle.pyr_graph.specs.declared.edge.Edge.{Edge}
use Rattle.pyr_graph.specs.declared.fault.GraphFault.{GraphFault}
use Rattle.pyr_graph.specs.declared.fault.GraphFault.TheVariants.{NoTask, Limit, Duplicate, TwoWriters, NoWriter, Cycle, Memory}
use Rattle.pyr_graph.specs.declared.index.Index.{Index}
use Rattle.pyr_graph.specs.System.{System, HoldsItsData, task_count, datum_count, task_at, task_numbers, reads_of, writes_of, comm_of, writer_of, IsWriter, IsEdge, AreSuccessors, ArePredecessors}
use Rattle.pyr_graph.specs.Bounds.{IsWithinLimits}
use Rattle.pyr_graph.specs.Removal.{IsLeft, IsSmallestFirst, IsFoundCycle}
use Rattle.pyr_graph.specs.Faults.{IsDistinct, IsWritten, IsSound, IsFault}
use Rattle.pyr_graph.specs.WholeGraph.{IsGraph, IsIndex}
use Rattle.pyr_graph.specs.Tables.{writer_in, AreSoleWriters, IsWriterCause, IsRow, turned_from, AreRows, AreOpposite, Precedes, IsCause}
use Rattle.pyr_graph.proofs.WriterLemmas.{writer_in-writer_of}
use Rattle.pyr_graph.proofs.IndexLemmas.{AreSuccessors-from_row, ArePredecessors-turned, AreRows-successors, AreRows-predecessors, AreOpposite-edges, first_by_edges, topological_by_edges, acyclic_by_order, cycle_by_edges}
use Rattle.pyr_graph.proofs.SoundLemmas.{IsWithinLimits-none, reads_distinct, writes_distinct, prints_distinct}

-- the parts passed the first tests, and the writer of each datum is known
pub record HasWriters (s : System) (writers : List TaskId) : Type 0 where
  pub holds : HoldsItsData s
  pub distinct : IsDistinct s
  pub sole : AreSoleWriters s.tasks (datum_count s) writers

-- and the rows of the edges out of each task
pub record HasRows (s : System) (writers : List TaskId) (forth : List (List Edge)) : Type 0 where
  pub wrote : HasWriters s writers
  pub full : length forth ≡ task_count s
  pub rows : (a : ℕ) → a < task_count s → IsRow (writer_in writers) (comm_of s) (reads_of s) (task_count s) a (get_or forth a [])

-- and into each task
pub record HasTurned (s : System) (writers : List TaskId) (forth back : List (List Edge)) : Type 0 where
  pub rowed : HasRows s writers forth
  pub full : length back ≡ task_count s
  pub turned : (t : ℕ) → t < task_count s → get_or back t [] ≡ turned_from 0 forth t

-- why some datum has no writer of its own is a fault of the parts
pub IsFault-writer_cause : (s : System) → IsDistinct s → (fault : GraphFault) → IsWriterCause s.tasks (datum_count s) fault → IsFault s fault
IsFault-writer_cause s distinct NoTask none = absurd none
IsFault-writer_cause s distinct (Limit which) none = absurd none
IsFault-writer_cause s distinct (Duplicate datum) none = absurd none
IsFault-writer_cause s distinct (TwoWriters datum) least = (distinct, least)
IsFault-writer_cause s distinct (NoWriter datum) (single, least) = (record { distinct = distinct; one_writer = single }, least)
IsFault-writer_cause s distinct (Cycle tasks) none = absurd none
IsFault-writer_cause s distinct Memory cause = tt

-- parts that passed the first tests have no more than this many tasks and data
module _ (s : System) (distinct : IsDistinct s) where
  pub limits_of : IsWithinLimits s
  limits_of = IsWithinLimits-none s distinct.within.limits

  pub few_tasks : task_count s < 2 ^ 32
  few_tasks = omega (arith, limits_of.tasks)

  pub few_datums : datum_count s < 2 ^ 32
  few_datums = omega (arith, limits_of.datums)

module _ (s : System) (writers : List TaskId) (is : HasWriters s writers) where
  written_in : (d t : ℕ) → IsWriter s d t → d < datum_count s
  written_in d t writes =
      All-contains (λ d. d < datum_count s) (writes_of s t) d (All-map (λ n. n < datum_count s) (λ (d : DatumId). d.0) (task_at s t).writes (is.holds.writes t)) writes.1

  pub written_of : IsWritten s
  written_of = record {
    single = record {
      distinct = is.distinct;
      one_writer = λ d (a, b, apart, is_a, is_b). apart (is.sole.alone d a (written_in d a is_a) is_a ∙ sym (is.sole.alone d b (written_in d a is_a) is_b));
    };
    some_writer = λ d (d_in, none). none (writer_in writers d) (is.sole.writes d d_in);
  }

  pub writer_same : (d : ℕ) → d < datum_count s → writer_in writers d ≡ writer_of s d
  writer_same = writer_in-writer_of s writers is.sole

module _ (s : System) (writers : List TaskId) (forth : List (List Edge)) (is : HasRows s writers forth) where
  pub successors_at : (a : ℕ) → a < task_count s → AreSuccessors s a (get_or forth a [])
  successors_at a a_in =
      AreSuccessors-from_row s is.wrote.holds writers is.wrote.sole.writes is.wrote.sole.alone a (get_or forth a []) a_in (is.rows a a_in)

  pub forth_rows : AreRows (task_count s) forth
  forth_rows = AreRows-successors s forth is.full successors_at

module _ (s : System) (writers : List TaskId) (forth back : List (List Edge)) (is : HasTurned s writers forth back) where
  predecessors_at : (b : ℕ) → b < task_count s → ArePredecessors s b (get_or back b [])
  predecessors_at b b_in = rw (is.turned b b_in) (ArePredecessors-turned s forth is.rowed.full (successors_at s writers forth is.rowed) b b_in)

  pub back_rows : AreRows (task_count s) back
  back_rows = AreRows-predecessors s back is.full predecessors_at

  pub opposite : AreOpposite forth back
  opposite = AreOpposite-edges s forth back is.rowed.full is.full (successors_at s writers forth is.rowed) predecessors_at

  -- the cycle that the rows have
  fault_of : (tasks : List ℕ) → IsFoundCycle (IsLeft (task_count s) (Precedes back)) (Precedes back) tasks
      → IsWritten s × IsFoundCycle (IsLeft (task_count s) (IsEdge s)) (IsEdge s) tasks × IsCycle (IsEdge s) (reverse tasks)
  fault_of tasks found =
      let (cycle, backwards) = cycle_by_edges s forth back is.rowed.full is.full (successors_at s writers forth is.rowed) predecessors_at tasks found in
      (written_of s writers is.rowed.wrote, cycle, backwards)

  pub IsFault-cause : (fault : GraphFault) → IsCause (task_count s) (Precedes back) fault → IsFault s fault
  IsFault-cause NoTask none = absurd none
  IsFault-cause (Limit which) none = absurd none
  IsFault-cause (Duplicate datum) none = absurd none
  IsFault-cause (TwoWriters datum) none = absurd none
  IsFault-cause (NoWriter datum) none = absurd none
  IsFault-cause (Cycle tasks) found = fault_of (task_numbers tasks) found
  IsFault-cause Memory cause = tt

  -- the graph, where there is an order
  module _ (order : List TaskId) (many : length (task_numbers order) ≡ task_count s) (first : IsSmallestFirst (task_count s) (Precedes back) (task_numbers order)) where
    acyclic : HasCycle (IsEdge s) → ⊥
    acyclic = acyclic_by_order s forth back is.rowed.full is.full (successors_at s writers forth is.rowed) predecessors_at (task_numbers order) many first

    pub sound_of : IsSound s
    sound_of = record { written = written_of s writers is.rowed.wrote; acyclic = acyclic }

    pub index_of : (index : Index) → index.writers ≡ writers → index.predecessors ≡ back → index.successors ≡ forth → index.order ≡ order → IsIndex s index
    index_of index writers_is back_is forth_is order_is = record {
      writers_full = rw writers_is is.rowed.wrote.sole.full;
      writers = rw writers_is (writer_same s writers is.rowed.wrote);
      predecessors_full = rw back_is is.full;
      predecessors = rw back_is predecessors_at;
      successors_full = rw forth_is is.rowed.full;
      successors = rw forth_is (successors_at s writers forth is.rowed);
      topological = rw order_is (topological_by_edges s forth back is.rowed.full is.full (successors_at s writers forth is.rowed) predecessors_at (task_numbers order) many first);
      smallest_first = rw order_is (first_by_edges s forth back is.rowed.full is.full (successors_at s writers forth is.rowed) predecessors_at (task_numbers order) first);
    }

    pub graph_of : IsGraph s
    graph_of =
        let wrote = is.rowed.wrote in
        record {
          holds = wrote.holds;
          some_task = wrote.distinct.within.some_task;
          limits = limits_of s wrote.distinct;
          reads_once = reads_distinct s wrote.distinct.once;
          writes_once = writes_distinct s wrote.distinct.once;
          prints_once = prints_distinct s wrote.distinct.once;
          some_writer = λ d d_in. rw (← writer_same s writers wrote d d_in) (wrote.sole.writes d d_in);
          one_writer = λ d t writes.
              let d_in = written_in s writers wrote d t writes in
              wrote.sole.alone d t d_in writes ∙ writer_same s writers wrote d d_in;
          acyclic = acyclic;
        }
