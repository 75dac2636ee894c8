use Rattle.std.proofs.Common.{◌≡◌, ◌++◌, map}
use Rattle.std.specs.Prelude.{nat_lt}
use Rattle.std.specs.List.{filter, range_with_len}
use Rattle.pyr_bundle.specs.Laws.{send_count}
use Rattle.pyr_emit.specs.Emission.{channel_of}
use Rattle.pyr_emit.proofs.channels.push_channels.Given as goal

abbrev pub invariant-loop-to : goal.invariant-loop-to
invariant-loop-to l =
    l.channels.items ≡ l.fn.channels.items ++ map (λ q. channel_of l.code (l.from, q))
    (filter (λ q. nat_lt 0 (send_count l.code l.from q)) (range_with_len 0 l.to))
