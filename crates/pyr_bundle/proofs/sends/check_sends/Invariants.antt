use Rattle.std.proofs.Common.{◌≡◌, ◌==◌, ◌&&◌, ◌||◌, ℕ, take}
use Rattle.std.specs.List.{list_any}
use Rattle.std.specs.HashSet.{contains}
use Rattle.pyr_bundle.specs.Law.{IsKeptBefore}
use Rattle.pyr_bundle.specs.Raw.{code_in}
use Rattle.pyr_bundle.specs.Laws.{sends, is_send}
use Rattle.pyr_bundle.proofs.sends.check_sends.Given as goal

abbrev pub invariant-loop-p : goal.invariant-loop-p
invariant-loop-p l = record {
  before : IsKeptBefore (sends l.raw) l.p 0;
  seen : (q d : ℕ) → contains (λ x y. (x.0 == y.0) && (x.1 == y.1)) l.seen (q, d) ≡ list_any (list_any (is_send q d)) (take l.p l.raw.code);
}

abbrev pub invariant-loop-i : goal.invariant-loop-i
invariant-loop-i l = record {
  before : IsKeptBefore (sends l.raw) l.p l.i;
  seen : (q d : ℕ) → contains (λ x y. (x.0 == y.0) && (x.1 == y.1)) l.seen (q, d)
      ≡ (list_any (list_any (is_send q d)) (take l.p l.raw.code) || list_any (is_send q d) (take l.i (code_in l.raw.code l.p)));
}
