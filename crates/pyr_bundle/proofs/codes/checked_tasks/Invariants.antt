use Rattle.std.proofs.Common.{◌≡◌, map, take}
use Rattle.pyr_bundle.specs.Law.{IsKeptBefore}
use Rattle.pyr_bundle.specs.Laws.{codes}
use Rattle.pyr_bundle.specs.Parts.{bundle_task_of}
use Rattle.pyr_bundle.proofs.codes.checked_tasks.Given as goal

abbrev pub invariant-loop-t : goal.invariant-loop-t
invariant-loop-t l = record {
  before : IsKeptBefore (codes l.raw) l.t 0;
  made : l.tasks.items ≡ map bundle_task_of (take l.t l.raw.tasks);
}
