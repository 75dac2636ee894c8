use Rattle.std.proofs.Common.{◌≡◌, ◌++◌, [], length, take, drop, arith, ap, ◌∙◌}
use Rattle.std.proofs.lemmas.List.{get_or_read, take_at}
use Rattle.pyr_graph.specs.declared.parts.TaskParts.{TaskParts}
use Rattle.pyr_graph.specs.System.{task_in}
use Rattle.pyr_graph.proofs.WriterLemmas.{AreKnown-step}
use Rattle.pyr_graph.proofs.writers.writers_of.Goals as goal
use Rattle.pyr_graph.proofs.writers.writers_of.Goals.{After-as_slice}

-- the list that is noted is that of the task
writes_is : (c : After-as_slice) → c.as_slice.result.now ≡ (task_in c.args.tasks.now c.loop-number.number).writes
writes_is c =
    c.as_slice.ensures
    ∙ ap (λ (t : TaskParts). t.writes) (get_or_read c.args.tasks.now _ _ c.loop-number-test.true c.index-tasks-number.is (record { cost = 0; reads = []; writes = [] }))

pub note-requires : goal.note-requires
note-requires c =
    let many : length c.deref_mut.result.now ≡ c.args.count = omega (arith, c.deref_mut.ensures.len, c.loop-number.invariant.full) in
    rw (writes_is c, many) (c.requires.holds c.loop-number.number)

pub loop-number-preserved : goal.loop-number-preserved
loop-number-preserved c =
    let same = writes_is (goal.at.loop-number-preserved c).After-as_slice in
    let new = c.note.new.table in
    let many : length new ≡ length c.loop-number.table.items = omega (arith, c.note.auto.table, c.deref_mut.ensures.len, c.loop-number.table.ok) in
    let back : take c.loop-number.table.len (new ++ drop (length new) c.loop-number.table.items) ≡ new = take_at new _ _ (omega (arith, c.note.auto.table, c.deref_mut.ensures.len)) in
    rw back (AreKnown-step c.args.tasks.now c.args.count (record { 0 = c.loop-number.number }) c.loop-number.table.items new c.as_slice.result.now c.loop-number.invariant same many
    (rw c.deref_mut.ensures.value at c.note.ensures))

pub returns-clause-described : goal.returns-clause-described
returns-clause-described c =
    let whole : c.loop-number.number ≡ length c.args.tasks.now = omega (arith, c.loop-number-test.false, c.loop-number.auto) in
    rw whole at c.loop-number.invariant.described
