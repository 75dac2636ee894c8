use Rattle.pyr_bundle.specs.Law.{IsKeptBefore}
use Rattle.pyr_bundle.specs.Laws.{capacities}
use Rattle.pyr_bundle.proofs.channels.check_capacities.Given as goal

abbrev pub invariant-loop-i : goal.invariant-loop-i
invariant-loop-i l = IsKeptBefore (capacities l.raw) l.i 0
