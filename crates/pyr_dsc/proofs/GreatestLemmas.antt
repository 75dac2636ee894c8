-- The greatest key of a list, and the first number that has it.
use Rattle.std.proofs.Common.{◌≡◌, ℕ, ◌≤◌, Bool, true, false, Option, Some, None, List, [], ◌∷◌, inl, inr, refl, arith, ap, sym, eqb-true}
use Rattle.std.specs.Prelude.{◌||◌, nat_eq, nat_lt}
use Rattle.std.specs.List.{best_of}
use Rattle.std.proofs.lemmas.Bool.{cases_Bool, cases_lt, lt-ltb, le-ltb}
use Rattle.pyr_graph.proofs.ListLemmas.{nat_eq-same}
use Rattle.pyr_graph.proofs.NumberLemmas.{Rises}
use Rattle.pyr_graph.specs.Numbers.{holds}
use Rattle.pyr_dsc.specs.Choice.{first_greatest}
use Rattle.pyr_dsc.specs.Time.{key_of}
use Rattle.pyr_dsc.proofs.HeadLemmas.{first_greatest-held}

-- no key is above that of the first greatest
best-most : (key : ℕ → ℕ) (y : ℕ) (ys : List ℕ) (x : ℕ) → holds (y ∷ ys) x ≡ true → key x ≤ key (best_of (λ a b. nat_lt (key b) (key a)) y ys)
best-most key y [] x held = elim (cases_Bool (nat_eq x y)) [
  | inl is ↦ (let same : x ≡ y = eqb-true x y is in rw same (omega arith))
  | inr other ↦ absurd (let e : false ≡ true = rw other at held in cc)
]
best-most key y (w ∷ ys) x held = elim (cases_lt (key y) (key w)) [
  | inl over ↦ rw (lt-ltb (key y) (key w) over) (elim (cases_Bool (nat_eq x y)) [
    | inl is ↦
        let same : x ≡ y = eqb-true x y is in
        let more = best-most key w ys w (rw (nat_eq-same w w refl)) in
        rw same (omega (arith, over, more))
    | inr other ↦ best-most key w ys x (rw other at held)
  ])
  | inr under ↦ rw (le-ltb (key y) (key w) under) (elim (cases_Bool (nat_eq x w)) [
    | inl is ↦
        let same : x ≡ w = eqb-true x w is in
        let more = best-most key y ys y (rw (nat_eq-same y y refl)) in
        rw same (omega (arith, under, more))
    | inr other ↦ best-most key y ys x (rw other at held)
  ])
]

pub first_greatest-most : (key : ℕ → ℕ) (xs : List ℕ) (x : ℕ) → holds xs x ≡ true → key x ≤ key_of key (first_greatest key xs)
first_greatest-most key [] x held = absurd (let e : false ≡ true = held in cc)
first_greatest-most key (y ∷ ys) x held = best-most key y ys x held

-- and it is within what all keys are within
pub first_greatest-low : (key : ℕ → ℕ) (xs : List ℕ) (most : ℕ) → ((x : ℕ) → holds xs x ≡ true → key x ≤ most) → key_of key (first_greatest key xs) ≤ most
first_greatest-low key xs most below = by (first_greatest key xs) refl
  where
    by : (o : Option ℕ) → first_greatest key xs ≡ o → key_of key o ≤ most
    by None is = omega arith
    by (Some x) is = below x (first_greatest-held key xs x is)

-- in a rising list the first with the greatest key is the smallest
best-first : (key : ℕ → ℕ) (y : ℕ) (ys : List ℕ) → Rises (y ∷ ys) → (v : ℕ) → holds (y ∷ ys) v ≡ true
    → key v ≡ key (best_of (λ a b. nat_lt (key b) (key a)) y ys) → best_of (λ a b. nat_lt (key b) (key a)) y ys ≤ v
best-first key y [] up v held = elim (cases_Bool (nat_eq v y)) [
  | inl is ↦ (λ same. let here : v ≡ y = eqb-true v y is in omega (arith, here))
  | inr other ↦ absurd (let e : false ≡ true = rw other at held in cc)
]
best-first key y (w ∷ ys) up v held = elim (cases_lt (key y) (key w)) [
  | inl over ↦ rw (lt-ltb (key y) (key w) over) (elim (cases_Bool (nat_eq v y)) [
    | inl is ↦ (λ same.
        let here : v ≡ y = eqb-true v y is in
        let same' : key y ≡ key (best_of (λ a b. nat_lt (key b) (key a)) w ys) = rw here at same in
        let more = best-most key w ys w (rw (nat_eq-same w w refl)) in
        absurd (omega (arith, over, more, same')))
    | inr other ↦ best-first key w ys up.1 v (rw other at held)
  ])
  | inr under ↦ rw (le-ltb (key y) (key w) under) (
      let first = best-first key y ys (up.0.1, up.1.1) in
      elim (cases_Bool (nat_eq v w)) [
        | inl is ↦ (λ same.
            let here : v ≡ w = eqb-true v w is in
            let same' : key w ≡ key (best_of (λ a b. nat_lt (key b) (key a)) y ys) = rw here at same in
            let most = best-most key y ys y (rw (nat_eq-same y y refl)) in
            let least = first y (rw (nat_eq-same y y refl)) (omega (arith, most, same', under)) in
            rw here (omega (arith, least, up.0.0)))
        | inr other ↦ first v (skip (nat_eq v y) (nat_eq v w) (holds ys v) other held)
      ])
]
  where
    skip : (p q r : Bool) → q ≡ false → (p || (q || r)) ≡ true → (p || r) ≡ true
    skip true q r none is = refl
    skip false q r none is = rw none at is

-- so it is the number that no key is above and that is the smallest of those with its key
pub first_greatest-is : (key : ℕ → ℕ) (xs : List ℕ) (u : ℕ) → Rises xs → holds xs u ≡ true
    → ((v : ℕ) → holds xs v ≡ true → (key v ≤ key u) × (key v ≡ key u → u ≤ v)) → first_greatest key xs ≡ Some u
first_greatest-is key [] u up held known = absurd (let e : false ≡ true = held in cc)
first_greatest-is key (y ∷ ys) u up held known =
    let best = best_of (λ a b. nat_lt (key b) (key a)) y ys in
    let most : key u ≤ key best = best-most key y ys u held in
    let there = known best (first_greatest-held key (y ∷ ys) best refl) in
    let same : key u ≡ key best = omega (arith, most, there.0) in
    let least : best ≤ u = best-first key y ys up u held same in
    let back = there.1 (sym same) in
    let is : best ≡ u = omega (arith, least, back) in
    ap Some is
