use Rattle.std.proofs.Common.{◌*◌, ◌≤◌, All}
use Rattle.pyr_bundle.specs.Law.{IsKeptBefore}
use Rattle.pyr_bundle.specs.Laws.{accesses}
use Rattle.pyr_bundle.proofs.numbers.check_lists.Given as goal

abbrev pub invariant-loop-t : goal.invariant-loop-t
invariant-loop-t l = record {
  before : IsKeptBefore (accesses l.raw) l.t 0;
  low : All (λ n. n ≤ 2 * l.t) l.named;
}
