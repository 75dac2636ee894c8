-- Lists in which each element differs from all later ones.
use Rattle.std.proofs.Common.{zero, suc, List, [], ◌∷◌, ◌++◌, refl, sym, subst, arith}
use Rattle.std.specs.Prelude.{◌≢◌, AllPairs, All, Contains}
use Rattle.std.proofs.lemmas.List.Elements.{All-nil, All-cons, All-head, All-tail, All-append, Contains-append_right}

module _ {X : Type 0} (R : X → X → Type 0) where
  pub AllPairs-cons : (x : X) (xs : List X) → All (R x) xs → AllPairs R xs → AllPairs R (x ∷ xs)
  AllPairs-cons x xs first rest i zero d less inside = absurd (omega (arith, less))
  AllPairs-cons x xs first rest zero (suc j) d less inside = first j d (omega (arith, inside))
  AllPairs-cons x xs first rest (suc i) (suc j) d less inside = rest i j d (omega (arith, less)) (omega (arith, inside))

  pub AllPairs-head : (x : X) (xs : List X) → AllPairs R (x ∷ xs) → All (R x) xs
  AllPairs-head x xs all k d inside = all 0 (suc k) d (omega arith) (omega (arith, inside))

  pub AllPairs-tail : (x : X) (xs : List X) → AllPairs R (x ∷ xs) → AllPairs R xs
  AllPairs-tail x xs all i j d less inside = all (suc i) (suc j) d (omega (arith, less)) (omega (arith, inside))

  pub AllPairs-append : (xs ys : List X) → AllPairs R xs → AllPairs R ys → All (λ x. All (R x) ys) xs → AllPairs R (xs ++ ys)
  AllPairs-append [] ys p q r = q
  AllPairs-append (x ∷ xs) ys p q r =
      AllPairs-cons x (xs ++ ys) (All-append (R x) xs ys (AllPairs-head x xs p) (All-head (λ z. All (R z) ys) x xs r))
      (AllPairs-append xs ys (AllPairs-tail x xs p) q (All-tail (λ z. All (R z) ys) x xs r))

-- no later element is the first one
pub not_later : {X : Type 0} (x : X) (xs : List X) → All (λ y. x ≢ y) xs → Contains xs x → ⊥
not_later x xs all (k, inside, at) = all k x inside (sym at)

-- nor is an earlier one
pub not_earlier : {X : Type 0} (xs : List X) (x : X) (ys : List X) → AllPairs (λ y z. y ≢ z) (xs ++ x ∷ ys) → Contains xs x → ⊥
not_earlier [] x ys pairs (k, inside, at) = omega (arith, inside)
not_earlier (y ∷ xs) x ys pairs (zero, inside, at) =
    not_later y (xs ++ x ∷ ys) (AllPairs-head (λ y z. y ≢ z) y (xs ++ x ∷ ys) pairs)
    (subst (λ z. Contains (xs ++ x ∷ ys) z) (sym at) (Contains-append_right xs (x ∷ ys) x (0, omega arith, refl)))
not_earlier (y ∷ xs) x ys pairs (suc k, inside, at) =
    not_earlier xs x ys (AllPairs-tail (λ y z. y ≢ z) y (xs ++ x ∷ ys) pairs) (k, omega (arith, inside), at)

-- what holds of each element holds of each in front
pub All-left : {X : Type 0} (P : X → Type 0) (xs ys : List X) → All P (xs ++ ys) → All P xs
All-left P [] ys all = All-nil P
All-left P (x ∷ xs) ys all = All-cons P x xs (All-head P x (xs ++ ys) all) (All-left P xs ys (All-tail P x (xs ++ ys) all))
