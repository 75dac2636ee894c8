use Rattle.std.proofs.Common.{◌≡◌, map}
use Rattle.std.specs.List.{range_with_len}
use Rattle.pyr_make.specs.Layered.{layered_task_name}
use Rattle.pyr_make.proofs.names.task_names.Given as goal

abbrev pub invariant-loop-task : goal.invariant-loop-task
invariant-loop-task l = l.names.items ≡ map layered_task_name (range_with_len 0 l.task)
