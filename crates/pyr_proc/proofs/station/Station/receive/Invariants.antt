use Rattle.std.proofs.Common.{◌≡◌}
use Rattle.pyr_proc.specs.Running.{KeepsRunning}
use Rattle.pyr_proc.proofs.station.Station.receive.Given as goal

abbrev pub invariant-loop : goal.invariant-loop
invariant-loop g l =
    (goal.iterator-loop g).can_next l.iterator' × (goal.iterator-loop g).is_finite l.iterator'
    × KeepsRunning l.initial.self l.self
    × (l.self.local.place ≡ l.initial.self.local.place)
