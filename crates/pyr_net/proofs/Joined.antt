-- Lists one after another.
use Rattle.std.proofs.Common.{◌≡◌, ◌≢◌, ℕ, zero, suc, ◌+◌, ◌<◌, ◌≤◌, List, [], ◌∷◌, ◌++◌, length, append_assoc, append-nil, length-append, refl, sym, ◌∙◌, ap, ap₂, subst, inl, inr, arith}
use Rattle.std.proofs.lemmas.Bool.Decides.{eqb_tells}
use Rattle.pyr_net.specs.Pipeline.{joined}
use Rattle.pyr_net.proofs.Update.{EqualOrNot}

-- the same lists
pub joined-same : {A : Type 0} (n : ℕ) (f g : ℕ → List A) → ((k : ℕ) → k < n → f k ≡ g k) →
    joined n f ≡ joined n g
joined-same zero f g h = refl
joined-same (suc n) f g h =
    ap₂ (λ xs ys. xs ++ ys) (joined-same n f g (λ k l. h k (omega arith))) (h n (omega arith))

-- empty ones
pub joined-none : {A : Type 0} (n : ℕ) (f : ℕ → List A) → ((k : ℕ) → k < n → f k ≡ []) →
    joined n f ≡ []
joined-none zero f h = refl
joined-none (suc n) f h = rw (h n (omega arith)) (append-nil _ ∙ joined-none n f (λ k l. h k (omega arith)))

-- something appended to one of them, with nothing behind it
pub joined-push : {A : Type 0} (n : ℕ) (f g : ℕ → List A) (m : ℕ) (xs : List A) → m < n →
    ((k : ℕ) → k ≢ m → g k ≡ f k) → g m ≡ f m ++ xs → ((k : ℕ) → m < k → f k ≡ []) →
    joined n g ≡ joined n f ++ xs
joined-push zero f g m xs less others here behind = absurd (omega arith)
joined-push {A} (suc n) f g m xs less others here behind =
    at (eqb_tells n m) (λ l. joined-push n f g m xs l others here behind)
  where
    at : EqualOrNot n m → (m < n → joined n g ≡ joined n f ++ xs) →
        joined n g ++ g n ≡ (joined n f ++ f n) ++ xs
    at (inl i) ih =
        let e : g n ≡ f n ++ xs = rw i.1 here in
        ap₂ (λ (us vs : List A). us ++ vs)
        (joined-same n g f (λ k l. others k (λ (j : k ≡ m). absurd (omega arith)))) e
        ∙ sym (append_assoc (joined n f) (f n) xs)
    at (inr i) ih =
        let d : n ≢ m = i.1 in
        let l : m < n = omega arith in
        let none : f n ≡ [] = behind n l in
        let none' : g n ≡ [] = others n d ∙ none in
        rw (none, none') (append-nil _ ∙ ih l ∙ sym (ap (λ us. us ++ xs) (append-nil _)))

-- one of them, with nothing before it, is the front; and so it is when it changes
pub joined-split : {A : Type 0} (n : ℕ) (f : ℕ → List A) (m : ℕ) → m < n →
    ((k : ℕ) → k < m → f k ≡ []) →
    (rest : List A)
    × ((g : ℕ → List A) → ((k : ℕ) → k ≢ m → g k ≡ f k) → joined n g ≡ g m ++ rest)
joined-split zero f m less before = absurd (omega arith)
joined-split {A} (suc n) f m less before =
    at (eqb_tells n m) (λ l. joined-split n f m l before)
  where
    Split : ℕ → Type 0
    Split j =
        (rest : List A)
        × ((g : ℕ → List A) → ((k : ℕ) → k ≢ m → g k ≡ f k) → joined j g ≡ g m ++ rest)

    at : EqualOrNot n m → (m < n → Split n) → Split (suc n)
    at (inl i) ih = (
      [],
      λ g h.
          ap (λ us. us ++ g n)
          (joined-none n g
          (λ k l. h k (λ (j : k ≡ m). absurd (omega arith)) ∙ before k (omega arith)))
          ∙ ap g i.1
          ∙ sym (append-nil (g m)),
    )
    at (inr i) ih =
        let d : n ≢ m = i.1 in
        let t : Split n = ih (omega arith) in (
          t.0 ++ f n,
          λ g h.
              ap₂ (λ (us vs : List A). us ++ vs) (t.1 g h) (h n d) ∙ append_assoc (g m) t.0 (f n),
        )

-- all but one of them empty
pub joined-one : {A : Type 0} (n : ℕ) (f : ℕ → List A) (m : ℕ) → m < n →
    ((k : ℕ) → k < n → k ≢ m → f k ≡ []) → joined n f ≡ f m
joined-one zero f m less others = absurd (omega arith)
joined-one {A} (suc n) f m less others =
    at (eqb_tells n m) (λ l. joined-one n f m l (λ k l' d. others k (omega arith) d))
  where
    at : EqualOrNot n m → (m < n → joined n f ≡ f m) → joined n f ++ f n ≡ f m
    at (inl i) ih =
        ap (λ us. us ++ f n)
        (joined-none n f (λ k l. others k (omega arith) (λ (j : k ≡ m). absurd (omega arith))))
        ∙ ap f i.1
    at (inr i) ih =
        let d : n ≢ m = i.1 in
        rw (others n (omega arith) d) (append-nil _ ∙ ih (omega arith))

-- something stands in one of them
pub joined-some : {A : Type 0} (n : ℕ) (f : ℕ → List A) → 0 < length (joined n f) →
    (k : ℕ) × (k < n) × (0 < length (f k))
joined-some zero f h = absurd (omega arith)
joined-some {A} (suc n) f h = at (f n) refl (λ l. joined-some n f l)
  where
    at : (xs : List A) → f n ≡ xs →
        (0 < length (joined n f) → (k : ℕ) × (k < n) × (0 < length (f k))) →
        (k : ℕ) × (k < suc n) × (0 < length (f k))
    at [] e ih =
        let here : joined n f ++ f n ≡ joined n f = rw e (append-nil _) in
        let t = ih (subst (λ (us : List A). 0 < length us) here h) in
        (t.0, let l : t.0 < n = t.1 in omega arith, t.2)
    at (x ∷ xs) e ih = (n, omega arith, rw e (omega arith))

-- none of them is longer than the whole
pub joined-long : {A : Type 0} (n : ℕ) (f : ℕ → List A) (k : ℕ) → k < n →
    length (f k) ≤ length (joined n f)
joined-long zero f k less = absurd (omega arith)
joined-long {A} (suc n) f k less = at (eqb_tells n k) (λ l. joined-long n f k l)
  where
    sum : length (joined n f ++ f n) ≡ length (joined n f) + length (f n)
    sum = length-append (joined n f) (f n)

    at : EqualOrNot n k → (k < n → length (f k) ≤ length (joined n f)) →
        length (f k) ≤ length (joined n f ++ f n)
    at (inl i) ih =
        let e : length (f n) ≡ length (f k) = ap (λ j. length (f j)) i.1 in
        let s = sum in
        omega arith
    at (inr i) ih =
        let d : n ≢ k = i.1 in
        let l : length (f k) ≤ length (joined n f) = ih (omega arith) in
        let s = sum in
        omega arith
