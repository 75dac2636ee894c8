-- One fault at most is told.
use Rattle.std.proofs.Common.{◌≡◌, ℕ, ◌+◌, ◌<◌, true, false, take, get_or, All, ◌⊎◌, inl, inr, sym, ap, ◌∙◌, subst, arith}
use Rattle.std.specs.Prelude.{slice_get}
use Rattle.std.proofs.lemmas.Bool.{false≢true, cases_order}
use Rattle.std.proofs.lemmas.List.{length-take, get_or-take}
use Rattle.std.proofs.lemmas.List.Elements.{All-from_recursion}
use Rattle.std.proofs.lemmas.Option.{slice_get_within, get_or_from_slice_get, same_Some}
use Rattle.pyr_bundle.specs.declared.raw_bundle.RawBundle.{RawBundle}
use Rattle.pyr_bundle.specs.Law.{Law, IsKept, IsFirstBreach}
use Rattle.pyr_bundle.specs.Laws.{laws}
use Rattle.pyr_bundle.specs.Faults.{IsLawful, IsFirstFault, OneFaultIsTold}

-- a law that is kept isn't broken
kept_not_broken : (law : Law) (a b : ℕ) → IsKept law → IsFirstBreach law a b → ⊥
kept_not_broken law a b kept breach =
    false≢true (sym breach.broken ∙ kept.kept a b breach.row breach.column)

-- a law has one first breach
one_breach : (law : Law) (a b c d : ℕ) → IsFirstBreach law a b → IsFirstBreach law c d → (a ≡ c) × (b ≡ d)
one_breach law a b c d f g = at (cases_order a c)
  where
    -- a breach has no breach before it
    clash : (x : _) → x ≡ false → x ≡ true → ⊥
    clash x e h = false≢true (sym e ∙ h)

    within : a ≡ c → (b ≡ d) ⊎ ((b < d) ⊎ (d < b)) → (a ≡ c) × (b ≡ d)
    within e (inl h) = (e, h)
    within e (inr (inl h)) = absurd (clash (law.passes a b) f.broken (g.earlier.kept a b f.row f.column (inr (e, h))))
    within e (inr (inr h)) = absurd (clash (law.passes c d) g.broken (f.earlier.kept c d g.row g.column (inr (sym e, h))))

    at : (a ≡ c) ⊎ ((a < c) ⊎ (c < a)) → (a ≡ c) × (b ≡ d)
    at (inl e) = within e (cases_order b d)
    at (inr (inl h)) = absurd (clash (law.passes a b) f.broken (g.earlier.kept a b f.row f.column (inl h)))
    at (inr (inr h)) = absurd (clash (law.passes c d) g.broken (f.earlier.kept c d g.row g.column (inl h)))

-- no law before the broken one is broken
not_smaller : (raw : RawBundle) (m a b n c d : ℕ) (f : IsFirstFault raw m a b) (g : IsFirstFault raw n c d) → f.index < g.index → ⊥
not_smaller raw m a b n c d f g l =
    let w = slice_get_within (laws raw) f.index f.law f.is_law in
    let n = length-take g.index (laws raw) in
    let e : get_or (take g.index (laws raw)) f.index f.law ≡ f.law = get_or-take g.index (laws raw) f.index f.law l ∙ get_or_from_slice_get (laws raw) f.index f.law f.law f.is_law in
    kept_not_broken f.law a b (subst IsKept e (g.smaller f.index f.law (omega arith))) f.first

one : (raw : RawBundle) (m a b n c d : ℕ) → IsFirstFault raw m a b → IsFirstFault raw n c d → (m ≡ n) × (a ≡ c) × (b ≡ d)
one raw m a b n c d f g = at (cases_order f.index g.index)
  where
    same : f.index ≡ g.index → (m ≡ n) × (a ≡ c) × (b ≡ d)
    same e =
        let law : f.law ≡ g.law = same_Some f.law g.law (sym f.is_law ∙ ap (slice_get (laws raw)) e ∙ g.is_law) in
        let place = one_breach g.law a b c d (subst (λ (x : Law). IsFirstBreach x a b) law f.first) g.first in
        (f.numbered ∙ ap (λ i. i + 1) e ∙ sym g.numbered, place.0, place.1)

    at : (f.index ≡ g.index) ⊎ ((f.index < g.index) ⊎ (g.index < f.index)) → (m ≡ n) × (a ≡ c) × (b ≡ d)
    at (inl e) = same e
    at (inr (inl h)) = absurd (not_smaller raw m a b n c d f g h)
    at (inr (inr h)) = absurd (not_smaller raw n c d m a b g f h)

-- lawful parts keep every law of the list
all_kept : (raw : RawBundle) → IsLawful raw → All IsKept (laws raw)
unfolding laws
all_kept raw h =
    All-from_recursion IsKept (laws raw) (h.names, (h.accesses, (h.writers, (h.codes, (h.prints, (h.operands, (h.executions, (h.sends, (h.receives, (h.channels, (h.capacities, tt)))))))))))

none : (raw : RawBundle) (m a b : ℕ) → IsLawful raw → IsFirstFault raw m a b → ⊥
none raw m a b h f =
    let w = slice_get_within (laws raw) f.index f.law f.is_law in
    kept_not_broken f.law a b (subst IsKept (get_or_from_slice_get (laws raw) f.index f.law f.law f.is_law) (all_kept raw h f.index f.law w)) f.first

pub one_fault : OneFaultIsTold
one_fault = record { one = one; none = none }
