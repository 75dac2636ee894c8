use Rattle.std.proofs.Common.{◌≡◌, map}
use Rattle.std.specs.List.{range_with_len}
use Rattle.pyr_make.specs.Layered.{layered_task}
use Rattle.pyr_make.proofs.lists.task_list.Given as goal

abbrev pub invariant-loop-task : goal.invariant-loop-task
invariant-loop-task l = l.list.items ≡ map layered_task (range_with_len 0 l.task)
