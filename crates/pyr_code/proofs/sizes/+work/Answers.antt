use Rattle.pyr_code.proofs.SeenLemmas.{work_more}
use Rattle.pyr_code.proofs.sizes.+work.Goals as goal

pub ops_work-loop-op-preserved : goal.ops_work-loop-op-preserved
ops_work-loop-op-preserved t c =
    work_more c.args.ops.now c.loop-op.op-index c.op-item.result c.loop-op.sum c.one_work-sum.result _ c.loop-op-test.true c.op-item.is c.one_work-sum.ensures c.loop-op.invariant
