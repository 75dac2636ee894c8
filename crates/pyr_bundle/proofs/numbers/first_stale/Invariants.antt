use Rattle.std.proofs.Common.{length}
use Rattle.pyr_bundle.specs.Law.{IsKeptBefore}
use Rattle.pyr_bundle.specs.Laws.{fresh}
use Rattle.pyr_bundle.proofs.Stamps.{IsStamped}
use Rattle.pyr_bundle.proofs.numbers.first_stale.Given as goal

abbrev pub invariant-loop-i : goal.invariant-loop-i
invariant-loop-i l = record {
  before : IsKeptBefore (fresh (length l.fn.named) l.list) l.i 0;
  stamped : IsStamped l.named l.list l.round l.i;
}
