use Rattle.std.proofs.Common.{◌+◌, List, length, ap, ◌∙◌}
use Rattle.std.proofs.lemmas.List.{length_push}
use Rattle.pyr_bundle.specs.declared.raw_task.RawTask.{RawTask}
use Rattle.pyr_emit.proofs.TaskLemmas.{tasks_more, checked_more}
use Rattle.pyr_emit.proofs.parts.tasks_of.Goals as goal

pub loop-task-preserved : goal.loop-task-preserved
loop-task-preserved c =
    let old : List RawTask = c.loop-task.tasks.items in
    let task : RawTask = c.in_ok-task_of.field-0 in
    let is = c.in_ok-push.ensures.items in
    record {
      full = ap length is ∙ length_push old task ∙ ap (λ n. n + 1) c.loop-task.invariant.full;
      each = tasks_more c.args.program.now old c.push.new.self.items c.loop-task.task task is c.loop-task.invariant.full c.loop-task.invariant.each c.in_ok-task_of.ensures.task;
      checked = checked_more old c.push.new.self.items task is c.loop-task.invariant.checked c.in_ok-task_of.ensures.checked;
    }
