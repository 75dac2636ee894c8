use Rattle.std.proofs.Common.{◌≡◌, map, take}
use Rattle.pyr_bundle.specs.Parts.{capacity_of}
use Rattle.pyr_bundle.proofs.typing.capacities_of.Given as goal

abbrev pub invariant-loop-channel : goal.invariant-loop-channel
invariant-loop-channel l = l.capacities.items ≡ map capacity_of (take l.channel-index l.channels)
