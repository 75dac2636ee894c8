use Rattle.std.proofs.Common.{◌≡◌, ◌++◌, take, drop}
use Rattle.pyr_calm.specs.Capacities.{with_channels}
use Rattle.pyr_calm.proofs.capacities.with_capacities.Given as goal

-- the first of the channels have their capacities
abbrev pub invariant-loop-i : goal.invariant-loop-i
invariant-loop-i l =
    l.bundle
    ≡ with_channels l.fn.bundle (take l.i l.lines ++ drop l.i l.fn.bundle.channels)
