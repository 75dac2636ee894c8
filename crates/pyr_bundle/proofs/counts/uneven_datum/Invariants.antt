use Rattle.std.proofs.Common.{◌≡◌, ℕ, ◌<◌, length, take, slice_index, count_by}
use Rattle.pyr_bundle.specs.Laws.{is_written_by}
use Rattle.pyr_bundle.proofs.counts.uneven_datum.Given as goal

abbrev pub invariant-loop-task : goal.invariant-loop-task
invariant-loop-task l =
    (d : ℕ) → d < length l.counts → slice_index l.counts d ≡ count_by (is_written_by d) (take l.task-index l.raw.tasks)
