use Rattle.std.proofs.Common.{◌≡◌, map}
use Rattle.std.specs.List.{range_with_len}
use Rattle.pyr_make.specs.Layered.{layered_body}
use Rattle.pyr_make.proofs.bodies.body_list.Given as goal

abbrev pub invariant-loop-task : goal.invariant-loop-task
invariant-loop-task l = l.bodies.items ≡ map layered_body (range_with_len 0 l.task)
