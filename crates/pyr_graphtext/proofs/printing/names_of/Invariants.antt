use Rattle.std.proofs.Common.{◌≡◌, take}
use Rattle.pyr_graphtext.specs.Canonical.{names_of}
use Rattle.pyr_graphtext.proofs.printing.names_of.Given as goal

abbrev pub invariant-loop-datum : goal.invariant-loop-datum
invariant-loop-datum l = l.names ≡ names_of l.program (take l.datum-index l.datums)
