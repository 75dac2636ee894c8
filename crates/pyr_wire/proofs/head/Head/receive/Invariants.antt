use Rattle.std.proofs.Common.{◌≡◌}
use Rattle.crossbeam_channel.specs.Claims.{view, IsSeatAt}
use Rattle.crossbeam_channel.specs.Ends.{receives_on, ruled_capacity}
use Rattle.pyr_wire.specs.declared.rule.Part.TheVariants.{Receives}
use Rattle.pyr_wire.proofs.head.Head.receive.Given as goal

-- until a receive succeeds the pass is what it was
abbrev pub invariant-loop : goal.invariant-loop
invariant-loop g l =
    (goal.iterator-loop g).can_next l.iterator' × (goal.iterator-loop g).is_finite l.iterator'
    × IsSeatAt (receives_on l.self-inside.channel) l.self-inside.pass
    × (view l.self-inside.pass ≡ view l.initial.self-inside.pass)
    × ((view l.initial.self-inside.pass).part ≡ Receives)
    × (ruled_capacity (receives_on l.self-inside.channel) ≡ (view l.initial.self-inside.pass).capacity)
