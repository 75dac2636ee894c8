use Rattle.std.proofs.Common.{◌==◌, length, slice_index}
use Rattle.pyr_bundle.specs.Law.{IsKeptBefore, single}
use Rattle.pyr_bundle.proofs.counts.first_not_one.Given as goal

abbrev pub invariant-loop-k : goal.invariant-loop-k
invariant-loop-k l = IsKeptBefore (single (length l.counts) (λ k. slice_index l.counts k == 1)) l.k 0
