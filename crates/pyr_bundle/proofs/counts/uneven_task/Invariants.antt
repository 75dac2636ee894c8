use Rattle.std.proofs.Common.{◌≡◌, ℕ, ◌<◌, length, take, slice_index, count_by, sum_by}
use Rattle.pyr_bundle.specs.Laws.{is_exec}
use Rattle.pyr_bundle.proofs.counts.uneven_task.Given as goal

abbrev pub invariant-loop-code : goal.invariant-loop-code
invariant-loop-code l =
    (t : ℕ) → t < length l.counts → slice_index l.counts t ≡ sum_by (count_by (is_exec t)) (take l.code-index l.raw.code)
