use Rattle.std.proofs.Common.{◌∙◌}
use Rattle.pyr_bundle.specs.Parts.{capacity_of}
use Rattle.pyr_bundle.proofs.Mapped.{one_more, all_made}
use Rattle.pyr_bundle.proofs.typing.capacities_of.Goals as goal

pub loop-channel-preserved : goal.loop-channel-preserved
loop-channel-preserved c =
    one_more capacity_of c.args.channels.now c.loop-channel.channel-index (record { from = 0; to = 0; capacity = 0 }) _ _ _ c.loop-channel-test.true c.loop-channel.invariant c.capacity_of.ensures c.in_ok-push.ensures.items

pub capacity_of-requires : goal.capacity_of-requires
capacity_of-requires c = c.requires c.loop-channel.channel-index _ c.loop-channel-test.true

pub returns : goal.returns
returns c =
    c.from_vec.ensures ∙ all_made capacity_of c.args.channels.now c.loop-channel.channel-index _ c.loop-channel-test.false c.loop-channel.invariant
