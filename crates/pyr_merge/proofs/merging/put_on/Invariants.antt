use Rattle.std.proofs.Common.{◌≡◌, ℕ, cond, take}
use Rattle.std.specs.Prelude.{nat_eq}
use Rattle.std.specs.List.{list_any}
use Rattle.pyr_graph.specs.System.{task_numbers}
use Rattle.pyr_merge.specs.Weighed.{placed_on}
use Rattle.pyr_merge.proofs.merging.put_on.Given as goal

abbrev pub invariant-loop-task : goal.invariant-loop-task
invariant-loop-task l =
    (t : ℕ) → placed_on l.of t
    ≡ cond (list_any (nat_eq t) (task_numbers (take l.task-index l.tasks))) l.processor.0 (placed_on l.initial.of t)
