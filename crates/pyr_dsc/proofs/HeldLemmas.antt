-- What a list of numbers holds, what a filter of it keeps, and what tests of it tell.
use Rattle.std.proofs.Common.{◌≡◌, ℕ, zero, suc, ◌<◌, Bool, true, false, List, [], ◌∷◌, ◌++◌, ◌⊎◌, inl, inr, refl, arith, sym, ◌∙◌, eqb-true}
use Rattle.std.specs.Prelude.{◌||◌, ◌&&◌, not, nat_eq, filter}
use Rattle.std.specs.List.{list_all}
use Rattle.std.proofs.lemmas.Bool.{cases_Bool, cases_eq}
use Rattle.pyr_graph.proofs.ListLemmas.{nat_eq-same}
use Rattle.pyr_graph.proofs.NumberLemmas.{list_any-snoc}
use Rattle.pyr_graph.specs.Numbers.{holds, numbers}
use Rattle.pyr_levels.proofs.ScheduledLemmas.{or-true}

pub or-cases : (p q : Bool) → (p || q) ≡ true → (p ≡ true) ⊎ (q ≡ true)
or-cases true q is = inl refl
or-cases false q is = inr is

pub or-left : (p q : Bool) → p ≡ true → (p || q) ≡ true
or-left p q is = rw is

pub or-right : (p q : Bool) → q ≡ true → (p || q) ≡ true
or-right p q is = rw is (or-true p)

pub or-false : (p : Bool) → (p || false) ≡ p
or-false true = refl
or-false false = refl

pub and-false : (p : Bool) → (p && false) ≡ false
and-false true = refl
and-false false = refl

pub not-true : (b : Bool) → not b ≡ true → b ≡ false
not-true true is = let e : false ≡ true = is in absurd (cc)
not-true false is = refl

pub not-both : (p : Bool) → p ≡ false → p ≡ true → ⊥
not-both p fails passes = let e : false ≡ true = sym fails ∙ passes in cc

-- one number more at the end of a list
pub holds-push : (xs : List ℕ) (x t : ℕ) → holds (xs ++ x ∷ []) t ≡ (holds xs t || nat_eq t x)
holds-push xs x t = list_any-snoc (nat_eq t) xs x

-- some element fails a test that not all pass
pub some-fails : (p : ℕ → Bool) (xs : List ℕ) → list_all p xs ≡ false → (x : ℕ) × (holds xs x ≡ true) × (p x ≡ false)
some-fails p [] none = absurd (let e : true ≡ false = none in cc)
some-fails p (x ∷ xs) none = elim (cases_Bool (p x)) [
  | inl passes ↦
      let (y, held, fails) = some-fails p xs (rw passes at none) in
      (y, or-right (nat_eq y x) (holds xs y) held, fails)
  | inr fails ↦ (x, or-left (nat_eq x x) (holds xs x) (nat_eq-same x x refl), fails)
]

-- what is held and passes is kept
pub held-kept : (p : ℕ → Bool) (xs : List ℕ) (t : ℕ) → holds xs t ≡ true → p t ≡ true → holds (filter p xs) t ≡ true
held-kept p [] t held passes = held
held-kept p (x ∷ xs) t held passes = elim (cases_Bool (p x)) [
  | inl is ↦ rw is (elim (or-cases (nat_eq t x) (holds xs t) held) [
    | inl here ↦ or-left (nat_eq t x) (holds (filter p xs) t) here
    | inr there ↦ or-right (nat_eq t x) (holds (filter p xs) t) (held-kept p xs t there passes)
  ])
  | inr isn't ↦ rw isn't (elim (or-cases (nat_eq t x) (holds xs t) held) [
    | inl here ↦ absurd (let same : t ≡ x = eqb-true t x here in not-both (p x) isn't (rw (← same) passes))
    | inr there ↦ held-kept p xs t there passes
  ])
]

-- the numbers below n
pub number-held : (n t : ℕ) → t < n → holds (numbers n) t ≡ true
number-held zero t inside = absurd (omega arith)
number-held (suc n) t inside = holds-push (numbers n) n t ∙ elim (cases_eq t n) [
  | inl same ↦ or-right (holds (numbers n) t) (nat_eq t n) (nat_eq-same t n same)
  | inr apart ↦ or-left (holds (numbers n) t) (nat_eq t n) (number-held n t (omega arith))
]

pub held-number : (n t : ℕ) → holds (numbers n) t ≡ true → t < n
held-number zero t held = absurd (let e : false ≡ true = held in cc)
held-number (suc n) t held = elim (or-cases (holds (numbers n) t) (nat_eq t n) (sym (holds-push (numbers n) n t) ∙ held)) [
  | inl old ↦ (let less = held-number n t old in omega (arith, less))
  | inr new ↦ (let same = eqb-true t n new in omega (arith, same))
]
