use Rattle.std.proofs.Common.{◌≡◌, Some, slice_get}
use Rattle.crossbeam_channel.specs.Claims.{view, IsSeatAt}
use Rattle.crossbeam_channel.specs.Ends.{sends_on, ruled_capacity}
use Rattle.pyr_wire.specs.declared.rule.Part.TheVariants.{Sends}
use Rattle.pyr_wire.proofs.tail.Tail.send.Given as goal

-- until a send succeeds the pass is what it was, and the parcel is still here
abbrev pub invariant-loop : goal.invariant-loop
invariant-loop g l =
    (goal.iterator-loop g).can_next l.iterator' × (goal.iterator-loop g).is_finite l.iterator'
    × IsSeatAt (sends_on l.self-inside.channel) l.self-inside.pass
    × (view l.self-inside.pass ≡ view l.initial.self-inside.pass)
    × ((view l.initial.self-inside.pass).part ≡ Sends)
    × (ruled_capacity (sends_on l.self-inside.channel) ≡ (view l.initial.self-inside.pass).capacity)
    × (slice_get (view l.initial.self-inside.pass).whole (view l.initial.self-inside.pass).count ≡ Some l.parcel)
