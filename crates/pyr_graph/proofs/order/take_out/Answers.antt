use Rattle.std.proofs.Common.{◌≡◌, ◌<◌, true, false, [], length, get_or, arith, ◌∙◌}
use Rattle.std.proofs.lemmas.List.{get_or_read, length-map, map_push}
use Rattle.pyr_num.specs.declared.ids.TaskId.{TaskId}
use Rattle.pyr_graph.proofs.ReleaseLemmas.{Removed, least_key, none_in}
use Rattle.pyr_graph.proofs.OrderLemmas.{IsOrdering-start, IsOrdering-step, AreTakenOut-end, enough, some_out}
use Rattle.pyr_graph.proofs.order.take_out.Goals as goal
use Rattle.pyr_graph.proofs.order.take_out.Goals.{After-as_slice, In-Some}

pub loop-task-init : goal.loop-task-init
loop-task-init c =
    rw c.in_ok-order.ensures.items (IsOrdering-start c.args.predecessors.now c.args.pending.now c.in_ok-ready.ready c.requires.counts c.in_ok-ready.ensures)

-- the task is one of the tasks
task_in : (c : In-Some) → c.in-Some.task < length c.args.successors.now
task_in c = rw c.requires.back.full (((c.loop-task.invariant.free c.in-Some.task).0 c.in-Some.ensures.member).0)

-- the edges that were read are those of the task
row_is : (c : After-as_slice) → c.in-Some.task < length c.args.successors.now → c.as_slice.result.now ≡ get_or c.args.successors.now c.in-Some.task []
row_is c inside = c.as_slice.ensures ∙ get_or_read c.args.successors.now _ _ inside c.index-successors-task.is []

pub release-requires : goal.release-requires
release-requires c =
    let at = goal.at.release-requires c in
    rw (row_is at.After-as_slice (task_in at.In-Some)) (record {
      tasks = rw c.loop-task.invariant.full (c.requires.back.tasks c.in-Some.task);
      enough = enough _ _ _ _ c.loop-task.invariant c.args.successors.now c.in-Some.task c.requires.opposite c.in-Some.ensures.member;
    })

pub loop-task-preserved : goal.loop-task-preserved
loop-task-preserved c =
    let at = goal.at.loop-task-preserved c in
    let row = row_is at.After-as_slice (task_in at.In-Some) in
    let fewer = rw row at c.in_ok-release.ensures.pending in
    let grown = rw row at c.in_ok-release.ensures.ready in
    rw (c.in_ok-push.ensures.items, map_push (λ (t : TaskId). t.0) c.loop-task.order.items (record { 0 = c.in-Some.task }))
    (IsOrdering-step _ _ _ _ c.loop-task.invariant c.args.successors.now c.in-Some.task c.pop_first.new.self c.release.new.ready c.release.new.pending
    c.requires.opposite c.in-Some.ensures.member (least_key _ _ c.in-Some.ensures.least) (Removed _ _ _ c.in-Some.ensures.updates) c.release.auto.pending fewer grown c.requires.back)

pub loop-task-smaller : goal.loop-task-smaller
loop-task-smaller c =
    let fewer = some_out _ _ _ _ c.loop-task.invariant c.in-Some.task c.in-Some.ensures.member (least_key _ _ c.in-Some.ensures.least) in
    omega (arith, fewer, length-map c.loop-task.order.items (λ (t : TaskId). t.0), c.in_ok-push.ensures.len, c.loop-task.order.ok)

pub bounds-successors-task : goal.bounds-successors-task
bounds-successors-task c = task_in (goal.at.bounds-successors-task c).In-Some

pub returns : goal.returns
returns c =
    rw c.from_vec.ensures (AreTakenOut-end _ _ _ _ c.loop-task.invariant (none_in c.loop-task.ready (λ some. let both : false ≡ true = c.in_default.ensures.variant.1 some in cc)) c.requires.rows)
