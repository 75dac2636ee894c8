use Rattle.std.proofs.Common.{◌∙◌}
use Rattle.pyr_bundle.specs.Parts.{no_channel}
use Rattle.pyr_calm.proofs.Lines.{channel_set}
use Rattle.pyr_calm.proofs.capacities.with_capacities.Goals as goal

pub loop-i-preserved : goal.loop-i-preserved
loop-i-preserved c =
    c.set_capacity.ensures
    ∙ channel_set c.args.bundle c.loop-i.bundle c.args.lines.now c.loop-i.i no_channel c.requires.pairs c.loop-i-test.true c.loop-i.invariant
