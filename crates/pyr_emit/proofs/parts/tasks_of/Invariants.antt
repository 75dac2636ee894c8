use Rattle.std.proofs.Common.{◌≡◌, ℕ, ◌<◌, length}
use Rattle.pyr_bundle.specs.Raw.{task_in}
use Rattle.std.specs.Prelude.{All}
use Rattle.pyr_emit.specs.Emission.{IsTaskOf}
use Rattle.pyr_emit.specs.Checked.{IsChecked}
use Rattle.pyr_emit.proofs.parts.tasks_of.Given as goal

abbrev pub invariant-loop-task : goal.invariant-loop-task
invariant-loop-task l = record {
  full : length l.tasks.items ≡ l.task;
  each : (t : ℕ) → t < l.task → IsTaskOf l.program t (task_in l.tasks.items t);
  checked : All IsChecked l.tasks.items;
}
