use Rattle.std.proofs.Common.{◌≡◌}
use Rattle.pyr_compile.specs.Compiled.{with_channels}
use Rattle.pyr_compile.proofs.Resized.{mixed}
use Rattle.pyr_compile.proofs.compiling.set_capacities.Given as goal

abbrev pub invariant-loop-i : goal.invariant-loop-i
invariant-loop-i l = l.bundle ≡ with_channels l.fn.bundle (mixed l.i l.capacities l.fn.bundle.channels)
