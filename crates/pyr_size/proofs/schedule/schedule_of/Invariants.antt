use Rattle.std.proofs.Common.{◌≡◌, map, take}
use Rattle.pyr_num.specs.declared.ids.TaskId.{TaskId}
use Rattle.pyr_size.specs.Blocks.{order_schedule}
use Rattle.pyr_size.proofs.schedule.schedule_of.Given as goal

abbrev pub invariant-loop-task : goal.invariant-loop-task
invariant-loop-task l = l.schedule.items ≡ order_schedule l.bundle (map (λ (t : TaskId). t.0) (take l.task-index l.order))
