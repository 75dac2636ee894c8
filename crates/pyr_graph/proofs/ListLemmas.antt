-- Lists: the last element, what holds of all but the last, and tests on numbers.
use Rattle.std.proofs.Common.{◌≡◌, ◌≢◌, ℕ, zero, suc, ◌+◌, ◌<◌, ◌⊎◌, inl, inr, List, [], ◌∷◌, ◌++◌, length, get_or, true, false, arith, refl, ap, sym, ◌∙◌, eqb-true, eq-eqb, length-append}
use Rattle.std.specs.Prelude.{nat_eq, All, Any, AllPairs, Contains}
use Rattle.std.specs.List.{list_any}
use Rattle.std.proofs.lemmas.Bool.{cases_lt, false_from_ne_true}
use Rattle.std.proofs.lemmas.Cmp.{nat_eq_equiv}
use Rattle.std.proofs.lemmas.List.{get_or_append_left, get_or_at}
use Rattle.std.proofs.lemmas.Map.Views.{Contains-from_any, list_any-from_Contains}

pub nat_eq-same : (m n : ℕ) → m ≡ n → nat_eq m n ≡ true
nat_eq-same m n same = eq-eqb m n same

pub nat_eq-apart : (m n : ℕ) → m ≢ n → nat_eq m n ≡ false
nat_eq-apart m n apart = false_from_ne_true (nat_eq m n) (λ is. apart (eqb-true m n is))

-- a number is in the list where the test finds it
pub Contains-tested : (n : ℕ) (xs : List ℕ) → list_any (nat_eq n) xs ≡ true → Contains xs n
Contains-tested n xs is = Contains-from_any eqb-true n xs is

pub tested-Contains : (n : ℕ) (xs : List ℕ) → Contains xs n → list_any (nat_eq n) xs ≡ true
tested-Contains n xs held = list_any-from_Contains nat_eq_equiv n xs held

module _ {X : Type 0} where
  -- one more empty list
  pub all_empty-push : (rows : List (List X)) → ((t : ℕ) → get_or rows t [] ≡ []) → (t : ℕ) → get_or (rows ++ [] ∷ []) t [] ≡ []
  all_empty-push [] all zero = refl
  all_empty-push [] all (suc t) = refl
  all_empty-push (row ∷ rows) all zero = all 0
  all_empty-push (row ∷ rows) all (suc t) = all_empty-push rows (λ u. all (suc u)) t

  -- a list is empty, or has a last element
  pub last_of : (xs : List X) → (xs ≡ []) ⊎ ((front : List X) × (last : X) × (xs ≡ front ++ last ∷ []))
  last_of [] = inl refl
  last_of (x ∷ xs) = elim (last_of xs) [
    | inl none ↦ inr ([], x, ap (λ (rest : List X). x ∷ rest) none)
    | inr (front, last, is) ↦ inr (x ∷ front, last, ap (λ (rest : List X). x ∷ rest) is)
  ]

  pub All-front : (P : X → Type 0) (front : List X) (last : X) → All P (front ++ last ∷ []) → All P front
  All-front P front last all k d inside =
      rw (← get_or_append_left front (last ∷ []) d k inside) (all k d (simp length-append (omega arith)))

  pub All-last : (P : X → Type 0) (front : List X) (last : X) → All P (front ++ last ∷ []) → P last
  All-last P front last all =
      rw (← get_or_at front last [] last (length front) refl) (all (length front) last (simp length-append (omega arith)))

  pub AllPairs-front : (R : X → X → Type 0) (front : List X) (last : X) → AllPairs R (front ++ last ∷ []) → AllPairs R front
  AllPairs-front R front last all i j d less inside =
      rw (← get_or_append_left front (last ∷ []) d i (omega arith), ← get_or_append_left front (last ∷ []) d j inside)
      (all i j d less (simp length-append (omega arith)))

  pub AllPairs-last : (R : X → X → Type 0) (front : List X) (last : X) → AllPairs R (front ++ last ∷ []) → All (λ x. R x last) front
  AllPairs-last R front last all k d inside =
      let fact = all k (length front) d inside (simp length-append (omega arith)) in
      rw (get_or_append_left front (last ∷ []) d k inside, get_or_at front last [] d (length front) refl) at fact

  pub Any-append_left : (P : X → Type 0) (xs ys : List X) → Any P xs → Any P (xs ++ ys)
  Any-append_left P xs ys (k, x, inside, here, holds) =
      (k, x, simp length-append (omega arith), get_or_append_left xs ys x k inside ∙ here, holds)

  pub Any-push_cases : (P : X → Type 0) (xs : List X) (y : X) → Any P (xs ++ y ∷ []) → Any P xs ⊎ P y
  Any-push_cases P xs y (k, x, inside, here, holds) =
      let inside' : k < length xs + 1 = simp length-append at inside in
      elim (cases_lt k (length xs)) [
        | inl less ↦ inl (k, x, less, sym (get_or_append_left xs (y ∷ []) x k less) ∙ here, holds)
        | inr past ↦ (
            let same : length xs ≡ k = omega arith in
            let is : y ≡ x = sym (get_or_at xs y [] x k same) ∙ here in
            inr (rw is holds))
      ]
