-- Going through the places of a law, row by row.
use Rattle.std.proofs.Common.{◌≡◌, ℕ, ◌+◌, ◌<◌, ◌≤◌, Bool, true, false, ◌||◌, cond, ◌⊎◌, inl, inr, refl, subst, sym, arith}
use Rattle.std.specs.Prelude.{Option, Some, None, Result, Ok, Err, IfErr}
use Rattle.std.specs.Result.{IsErrAnd}
use Rattle.std.proofs.lemmas.Bool.{cases_eq}
use Rattle.pyr_bundle.specs.declared.bundle_fault.BundleFault.{BundleFault}
use Rattle.pyr_bundle.specs.declared.bundle_fault.BundleFault.TheVariants.{Law as LawFault}
use Rattle.pyr_bundle.specs.Law.{Law, IsKept, IsFirstBreach, IsBefore, IsKeptBefore, single}
use Rattle.pyr_bundle.specs.Faults.{IsBroken}

pub before_none : (law : Law) → IsKeptBefore law 0 0
before_none law = record { kept = none }
  where
    none : (c d : ℕ) → c < law.rows → d < law.columns c → IsBefore c d 0 0 → law.passes c d ≡ true
    none c d r k (inl h) = absurd (omega arith)
    none c d r k (inr h) = absurd (omega (arith, h.1))

-- one place more
pub before_more : (law : Law) (a b : ℕ) → IsKeptBefore law a b → law.passes a b ≡ true → IsKeptBefore law a (b + 1)
before_more law a b h e = record { kept = more }
  where
    at : (c d : ℕ) → c < law.rows → d < law.columns c → c ≡ a → d < b + 1 → (d ≡ b) ⊎ (d ≡ b → ⊥) → law.passes c d ≡ true
    at c d r k f g (inl i) = rw (f, i) e
    at c d r k f g (inr i) = h.kept c d r k (inr (f, omega (arith, i)))

    more : (c d : ℕ) → c < law.rows → d < law.columns c → IsBefore c d a (b + 1) → law.passes c d ≡ true
    more c d r k (inl f) = h.kept c d r k (inl f)
    more c d r k (inr f) = at c d r k f.0 f.1 (cases_eq d b)

-- one row more
pub before_row : (law : Law) (a b : ℕ) → law.columns a ≤ b → IsKeptBefore law a b → IsKeptBefore law (a + 1) 0
before_row law a b l h = record { kept = row }
  where
    at : (c d : ℕ) → c < law.rows → d < law.columns c → c < a + 1 → (c ≡ a) ⊎ (c ≡ a → ⊥) → law.passes c d ≡ true
    at c d r k f (inl i) = let g : d < law.columns a = subst (λ n. d < law.columns n) i k in h.kept c d r k (inr (i, omega arith))
    at c d r k f (inr i) = h.kept c d r k (inl (omega (arith, i)))

    row : (c d : ℕ) → c < law.rows → d < law.columns c → IsBefore c d (a + 1) 0 → law.passes c d ≡ true
    row c d r k (inl f) = at c d r k f (cases_eq c a)
    row c d r k (inr f) = absurd (omega (arith, f.1))

pub before_all : (law : Law) (a : ℕ) → law.rows ≤ a → IsKeptBefore law a 0 → IsKept law
before_all law a l h = record { kept = λ c d r k. h.kept c d r k (inl (omega arith)) }

-- the same for a law with one place in each row
pub single_more : (count : ℕ) (passes : ℕ → Bool) (a : ℕ) → IsKeptBefore (single count passes) a 0 → passes a ≡ true → IsKeptBefore (single count passes) (a + 1) 0
single_more count passes a h e =
    before_row (single count passes) a 1 (omega arith) (before_more (single count passes) a 0 h e)

pub single_breach : (count : ℕ) (passes : ℕ → Bool) (a : ℕ) → a < count → IsKeptBefore (single count passes) a 0 → passes a ≡ false → IsFirstBreach (single count passes) a 0
single_breach count passes a l h e = record { row = l; column = omega arith; broken = e; earlier = h }

-- what was seen, once this is seen too
pub cond_or : (c b : Bool) → cond c true b ≡ (b || c)
cond_or true true = refl
cond_or true false = refl
cond_or false true = refl
cond_or false false = refl

-- the fault that tells a breach
pub broken : (n : ℕ) (law : Law) (a b : ℕ) (e : BundleFault) → e ≡ LawFault n a b → IsFirstBreach law a b → IsBroken n law e
broken n law a b e is h = subst (IsBroken n law) (sym is) (refl, h)

-- what holds of a fault holds of an answer that passes it on
pub told : {T : Type 0} (P : BundleFault → Type 0) (r : Result T BundleFault) (fault : BundleFault) → IsErrAnd r (λ e. e ≡ fault) → P fault → IfErr r P
told P (Ok x) fault is h = absurd is
told P (Err e) fault is h = subst P (sym is) h

pub not_some : {X : Type 0} (o : Option X) → ((x : X) → o ≡ Some x → ⊥) → o ≡ None
not_some None h = refl
not_some (Some x) h = absurd (h x refl)

-- so many places more in one row
pub before_upto : (law : Law) (a n : ℕ) → IsKeptBefore law a 0 → ((b : ℕ) → b < n → law.passes a b ≡ true) → IsKeptBefore law a n
before_upto law a n h e = record { kept = upto }
  where
    upto : (c d : ℕ) → c < law.rows → d < law.columns c → IsBefore c d a n → law.passes c d ≡ true
    upto c d r k (inl f) = h.kept c d r k (inl f)
    upto c d r k (inr f) = rw f.0 (e d f.1)

-- every place before it passes, in a law with one place in each row
pub single_before : (count : ℕ) (passes : ℕ → Bool) (a b : ℕ) → IsKeptBefore (single count passes) a 0 → b < a → b < count → passes b ≡ true
single_before count passes a b h l k = h.kept b 0 k (omega arith) (inl l)
