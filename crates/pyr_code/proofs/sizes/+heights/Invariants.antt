use Rattle.std.proofs.Common.{drop}
use Rattle.pyr_code.proofs.HeightLemmas.{Measured}
use Rattle.pyr_code.proofs.sizes.+heights.Given as goal

abbrev pub invariant-ops_heights-loop-op : goal.invariant-ops_heights-loop-op
invariant-ops_heights-loop-op l =
    Measured l.shape (drop l.op-index l.ops) l.ops l.height l.after l.greatest
