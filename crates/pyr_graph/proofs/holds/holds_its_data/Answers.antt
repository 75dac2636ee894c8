use Rattle.std.proofs.Common.{◌<◌, [], length, ap, sym, ◌∙◌}
use Rattle.std.specs.Prelude.{All}
use Rattle.std.proofs.lemmas.Bool.{false≢true}
use Rattle.std.proofs.lemmas.List.{get_or_read, take_all}
use Rattle.std.proofs.lemmas.List.Elements.{All-more}
use Rattle.pyr_graph.specs.declared.parts.TaskParts.{TaskParts}
use Rattle.pyr_graph.proofs.SoundLemmas.{HoldsItsData-from_lists}
use Rattle.pyr_graph.proofs.holds.holds_its_data.Goals as goal

pub returns-then-not-are_below : goal.returns-then-not-are_below
returns-then-not-are_below c =
    let task = get_or_read c.args.tasks.now _ _ c.loop-task-test.true c.task-item.is (record { cost = 0; reads = []; writes = [] }) in
    let reads = c.as_slice.ensures ∙ ap (λ (t : TaskParts). t.reads) task in
    (λ is. absurd (false≢true is), λ holds. sym c.if-not-are_below.true ∙ c.are_below.ensures.1 (rw reads (holds.reads c.loop-task.task-index)))

pub returns-then-not-are_below-2 : goal.returns-then-not-are_below-2
returns-then-not-are_below-2 c =
    let task = get_or_read c.args.tasks.now _ _ c.loop-task-test.true c.task-item.is (record { cost = 0; reads = []; writes = [] }) in
    let writes = c.as_slice-in-loop-task.ensures ∙ ap (λ (t : TaskParts). t.writes) task in
    (λ is. absurd (false≢true is), λ holds. sym c.if-not-are_below-2.true ∙ c.are_below-in-loop-task.ensures.1 (rw writes (holds.writes c.loop-task.task-index)))

pub loop-task-preserved : goal.loop-task-preserved
loop-task-preserved c =
    let task = get_or_read c.args.tasks.now _ _ c.loop-task-test.true c.task-item.is (record { cost = 0; reads = []; writes = [] }) in
    let reads = c.as_slice.ensures ∙ ap (λ (t : TaskParts). t.reads) task in
    let writes = c.as_slice-in-loop-task.ensures ∙ ap (λ (t : TaskParts). t.writes) task in
    All-more (λ t. All (λ d. d.0 < length c.args.datums.now) t.reads × All (λ d. d.0 < length c.args.datums.now) t.writes) c.args.tasks.now c.loop-task.task-index _ c.loop-task-test.true c.loop-task.invariant
    (rw reads at (c.are_below.ensures.0 c.if-not-are_below.false), rw writes at (c.are_below-in-loop-task.ensures.0 c.if-not-are_below-2.false))

pub returns : goal.returns
returns c =
    let all = rw (take_all c.loop-task.task-index c.args.tasks.now c.loop-task-test.false) at c.loop-task.invariant in
    (λ is. HoldsItsData-from_lists c.args.tasks.now c.args.datums.now c.args.prints.now all (c.are_below-2.ensures.0 is), λ holds. c.are_below-2.ensures.1 holds.prints)
