use Rattle.std.proofs.Common.{◌≡◌, ℕ, take}
use Rattle.std.specs.Prelude.{nat_eq}
use Rattle.std.specs.List.{list_any}
use Rattle.std.specs.HashSet.{contains}
use Rattle.pyr_bundle.specs.Law.{IsKeptBefore}
use Rattle.pyr_bundle.specs.Raw.{code_in}
use Rattle.pyr_bundle.specs.Laws.{receives, is_receive}
use Rattle.pyr_bundle.proofs.receives.check_receives.Given as goal

abbrev pub invariant-loop-p : goal.invariant-loop-p
invariant-loop-p l = IsKeptBefore (receives l.raw) l.p 0

abbrev pub invariant-loop-i : goal.invariant-loop-i
invariant-loop-i l = record {
  before : IsKeptBefore (receives l.raw) l.p l.i;
  seen : (d : ℕ) → contains nat_eq l.seen d ≡ list_any (is_receive d) (take l.i (code_in l.raw.code l.p));
}
