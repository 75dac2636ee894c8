use Rattle.std.proofs.Common.{◌≡◌, ℕ, ◌+◌, take}
use Rattle.std.specs.Prelude.{nat_eq, count_by}
use Rattle.pyr_graph.specs.System.{task_numbers}
use Rattle.pyr_merge.specs.Weighed.{marks}
use Rattle.pyr_merge.proofs.partition.mark.Given as goal

abbrev pub invariant-loop-task : goal.invariant-loop-task
invariant-loop-task l =
    (t : ℕ) → marks l.marked t ≡ marks l.initial.marked t + count_by (nat_eq t) (task_numbers (take l.task-index l.tasks))
