use Rattle.std.proofs.Common.{◌≡◌, ◌++◌, map, take}
use Rattle.pyr_size.specs.Followed.{number_of}
use Rattle.pyr_size.specs.Sizes.{resized}
use Rattle.pyr_size.proofs.sizing.push_sizes.Given as goal

abbrev pub invariant-loop-channel : goal.invariant-loop-channel
invariant-loop-channel l = l.capacities.items ≡ l.fn.capacities.items ++ map (resized (number_of l.lengths)) (take l.channel-index l.channels)
