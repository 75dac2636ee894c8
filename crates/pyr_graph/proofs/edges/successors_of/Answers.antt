use Rattle.std.proofs.Common.{◌≡◌, ◌<◌, ◌≤◌, [], length, get_or, arith, ap, ◌∙◌, lit<}
use Rattle.std.proofs.lemmas.List.{get_or_read, length-map}
use Rattle.pyr_num.specs.declared.limits.TheConstants.Limits.{COMM, READS}
use Rattle.pyr_graph.specs.declared.parts.TaskParts.{TaskParts}
use Rattle.pyr_graph.specs.System.{task_in}
use Rattle.pyr_graph.specs.Tables.{writer_in}
use Rattle.pyr_graph.proofs.EdgeLemmas.{AreRowsSoFar-start, AreRowsSoFar-next, AreRowsSoFar-end, AreRowsSoFar-read, weight_fits-read}
use Rattle.pyr_graph.proofs.edges.successors_of.Goals as goal
use Rattle.pyr_graph.proofs.edges.successors_of.Goals.{After-index_mut, After-loop-datum, In-loop-datum}

-- the reads that are gone through are those of the task
reads_is : (c : After-index_mut) → c.as_slice-datum-items.result.now ≡ (task_in c.args.tasks.now c.loop-number.number).reads
reads_is c =
    c.as_slice-datum-items.ensures
    ∙ ap (λ (t : TaskParts). t.reads) (get_or_read c.args.tasks.now _ _ c.loop-number-test.true c.index-tasks-number.is (record { cost = 0; reads = []; writes = [] }))

-- the writer is a task
writer_in_range : (c : After-index_mut) → writer_in c.args.writers.now (get_or c.as_slice-datum-items.result.now c.loop-datum.datum-index (record { 0 = 0 })).0 < length c.args.tasks.now
writer_in_range c =
    c.requires.writers _ (rw (reads_is c) (c.requires.reads c.loop-number.number c.loop-datum.datum-index (record { 0 = 0 }) (rw (reads_is c) at c.loop-datum-test.true)))

pub loop-number-init : goal.loop-number-init
loop-number-init c = AreRowsSoFar-start _ _ _ _ c.in_ok-rows.ensures.0 c.in_ok-rows.ensures.1

pub add_weight-requires : goal.add_weight-requires
add_weight-requires c =
    weight_fits-read _ _ _ _ _ _ _ _ _ c.loop-datum.invariant c.loop-number-test.true (reads_is c) c.loop-datum-test.true c.index_mut.ensures.value c.from-weight.ensures
    COMM READS c.requires.light c.requires.short (lit< tt) (writer_in_range c)

pub loop-datum-preserved : goal.loop-datum-preserved
loop-datum-preserved c =
    let before = (goal.at.loop-datum-preserved c).After-index_mut in
    AreRowsSoFar-read _ _ _ _ _ _ _ _ _ _ c.loop-datum.invariant c.loop-number-test.true (reads_is before) c.loop-datum-test.true c.index_mut.ensures.value c.from-weight.ensures
    c.in_ok-add_weight.ensures (writer_in_range before)

pub loop-number-preserved : goal.loop-number-preserved
loop-number-preserved c =
    let same = c.as_slice-datum-items.ensures
    ∙ ap (λ (t : TaskParts). t.reads) (get_or_read c.args.tasks.now _ _ c.loop-number-test.true c.index-tasks-number.is (record { cost = 0; reads = []; writes = [] })) in
    let past : length (task_in c.args.tasks.now c.loop-number.number).reads ≤ c.loop-datum.datum-index = rw same at c.loop-datum-test.false in
    AreRowsSoFar-next _ _ _ _ _ _ c.loop-datum.invariant (rw length-map past)

pub returns-clause-rows : goal.returns-clause-rows
returns-clause-rows c = AreRowsSoFar-end _ _ _ _ c.loop-number.number 0 c.loop-number-test.false c.loop-number.invariant

pub loop-datum-init : goal.loop-datum-init
loop-datum-init c = c.loop-number.invariant

-- the datum is one of the data
datum_in_range : (c : In-loop-datum) → (get_or c.as_slice-datum-items.result.now c.loop-datum.datum-index (record { 0 = 0 })).0 < length c.args.datums.now
datum_in_range c =
    let same = c.as_slice-datum-items.ensures
    ∙ ap (λ (t : TaskParts). t.reads) (get_or_read c.args.tasks.now _ _ c.loop-number-test.true c.index-tasks-number.is (record { cost = 0; reads = []; writes = [] })) in
    rw same (c.requires.reads c.loop-number.number c.loop-datum.datum-index (record { 0 = 0 }) (rw same at c.loop-datum-test.true))

pub bounds-writers-at : goal.bounds-writers-at
bounds-writers-at c = rw c.requires.same (datum_in_range (goal.at.bounds-writers-at c).In-loop-datum)

pub bounds-datums-at : goal.bounds-datums-at
bounds-datums-at c = datum_in_range (goal.at.bounds-datums-at c).In-loop-datum

pub index_mut-requires : goal.index_mut-requires
index_mut-requires c =
    let inside = c.requires.writers _ (datum_in_range (goal.at.index_mut-requires c).In-loop-datum) in
    omega (arith, inside, c.loop-datum.invariant.full, c.loop-datum.rows.ok)

pub returns-clause-full : goal.returns-clause-full
returns-clause-full c = c.loop-number.invariant.full
