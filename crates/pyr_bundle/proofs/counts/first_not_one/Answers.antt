use Rattle.std.proofs.Common.{◌==◌, length, slice_index, arith}
use Rattle.std.proofs.lemmas.Bool.{eq-eqb}
use Rattle.pyr_bundle.proofs.Scans.{before_all, single_more}
use Rattle.pyr_bundle.proofs.counts.first_not_one.Goals as goal

pub loop-k-preserved : goal.loop-k-preserved
loop-k-preserved c =
    single_more (length c.args.counts.now) (λ k. slice_index c.args.counts.now k == 1) c.loop-k.k c.loop-k.invariant (eq-eqb _ _ c.if-count-ne1.false)

pub returns : goal.returns
returns c =
    before_all _ c.loop-k.k (omega arith) c.loop-k.invariant
