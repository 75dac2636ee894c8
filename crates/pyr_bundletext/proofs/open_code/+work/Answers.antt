use Rattle.pyr_bundletext.proofs.CodeLemmas.{capped_more}
use Rattle.pyr_bundletext.proofs.open_code.+work.Goals as goal

pub capped_work-loop-op-preserved : goal.capped_work-loop-op-preserved
capped_work-loop-op-preserved t c =
    let more = capped_more c.args.ops.now c.loop-op.op-index c.op-item.result c.loop-op.sum c.op_work.result c.min-sum.result _ c.loop-op-test.true c.op-item.is c.op_work.ensures c.min-sum.ensures c.loop-op.invariant.so_far in
    record { so_far = more.0; capped = more.1 }
