use Rattle.std.proofs.Common.{◌≡◌, ℕ, List, bytes_eq, take}
use Rattle.std.specs.List.{list_any}
use Rattle.std.specs.HashSet.{contains}
use Rattle.pyr_bundle.specs.Law.{IsKeptBefore}
use Rattle.pyr_bundle.specs.Laws.{names, names_of}
use Rattle.pyr_bundle.proofs.names.check_names.Given as goal

abbrev pub invariant-loop-d : goal.invariant-loop-d
invariant-loop-d l = record {
  before : IsKeptBefore (names l.raw) l.d 0;
  seen : (q : List ℕ) → contains bytes_eq l.seen q ≡ list_any (λ e. bytes_eq e q) (take l.d (names_of l.raw.datums));
}
