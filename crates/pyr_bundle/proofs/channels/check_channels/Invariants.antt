use Rattle.pyr_bundle.specs.Law.{IsKeptBefore}
use Rattle.pyr_bundle.specs.Laws.{channels}
use Rattle.pyr_bundle.proofs.channels.check_channels.Given as goal

abbrev pub invariant-loop-i : goal.invariant-loop-i
invariant-loop-i l = IsKeptBefore (channels l.raw) l.i 0
