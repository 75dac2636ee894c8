use Rattle.pyr_compile.proofs.Resized.{one_more}
use Rattle.pyr_compile.proofs.compiling.set_capacities.Goals as goal

pub loop-i-preserved : goal.loop-i-preserved
loop-i-preserved c =
    one_more c.args.bundle.now c.args.capacities.now c.requires.pairs c.loop-i.i c.loop-i.bundle c.loop-i.invariant c.loop-i-test.true c.set_capacity.new.self c.set_capacity.ensures
