use Rattle.std.proofs.Common.{refl, arith}
use Rattle.pyr_code.specs.Seen.{code_of}
use Rattle.pyr_code.proofs.HeightLemmas.{greatest_height-from, measured_more, measured_all}
use Rattle.pyr_code.proofs.sizes.+heights.Goals as goal

pub ops_heights-loop-op-init : goal.ops_heights-loop-op-init
ops_heights-loop-op-init t c = record {
  after = refl;
  greatest = omega (arith, greatest_height-from (code_of c.args.ops.now) c.args.height);
  reached = omega arith;
  low = c.requires.low;
  fine = c.requires.fine;
}

pub ops_heights-loop-op-preserved : goal.ops_heights-loop-op-preserved
ops_heights-loop-op-preserved t c =
    let one = c.one_heights-next.ensures in
    measured_more c.args.shape c.args.ops.now c.loop-op.op-index c.op-item.result c.args.height c.loop-op.after c.loop-op.greatest _ _ _ c.loop-op-test.true c.op-item.is c.loop-op.invariant one.after one.greatest one.low c.max-greatest.ensures

pub ops_heights-returns : goal.ops_heights-returns
ops_heights-returns t c =
    let all = measured_all c.args.shape c.args.ops.now c.loop-op.op-index c.args.height c.loop-op.after c.loop-op.greatest c.loop-op-test.false c.loop-op.invariant in
    record { after = all.0; greatest = all.1; low = all.2 }
