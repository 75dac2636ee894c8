use Rattle.std.proofs.Common.{◌≡◌, map}
use Rattle.std.specs.List.{flat_map, range_with_len}
use Rattle.pyr_bundle.specs.Laws.{pairs_from}
use Rattle.pyr_emit.specs.Emission.{channel_of}
use Rattle.pyr_emit.proofs.channels.channels_of.Given as goal

abbrev pub invariant-loop-from : goal.invariant-loop-from
invariant-loop-from l =
    l.channels.items ≡ map (channel_of l.code) (flat_map (pairs_from l.code) (range_with_len 0 l.from))
