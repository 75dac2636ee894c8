-- Lists that are made by number.
use Rattle.std.proofs.Common.{◌≡◌, ℕ, ◌+◌, ◌*◌, ◌<◌, ◌≤◌, List, [], ◌∷◌, ◌++◌, length, get_or, map, sym, ap, ◌∙◌, arith}
use Rattle.std.specs.Prelude.{All, AllPairs, sum_by}
use Rattle.std.specs.List.{range_with_len}
use Rattle.std.proofs.lemmas.List.FromFn.{length-map-range_with_len, get_or-map-range_with_len, map-range_with_len_more}
use Rattle.std.proofs.lemmas.List.Sums.{sum_by-le}

-- one element more
pub made_more : {X : Type 0} (f : ℕ → X) (n : ℕ) → map f (range_with_len 0 (n + 1)) ≡ map f (range_with_len 0 n) ++ f n ∷ []
made_more f n = map-range_with_len_more f 0 n n (omega arith)

-- a list with one element more, and all of them
pub made_on : {X : Type 0} (f : ℕ → X) (n : ℕ) (list pushed : List X) (x : X) → list ≡ map f (range_with_len 0 n) → x ≡ f n → pushed ≡ list ++ x ∷ [] → pushed ≡ map f (range_with_len 0 (n + 1))
made_on {X} f n list pushed x so_far is push =
    push ∙ ap (λ (xs : List X). xs ++ x ∷ []) so_far ∙ ap (λ (y : X). map f (range_with_len 0 n) ++ y ∷ []) is ∙ sym (made_more f n)

pub made_whole : {X : Type 0} (f : ℕ → X) (n count : ℕ) (list : List X) → count ≤ n → n ≤ count → list ≡ map f (range_with_len 0 n) → list ≡ map f (range_with_len 0 count)
made_whole f n count list done within so_far = so_far ∙ ap (λ (k : ℕ). map f (range_with_len 0 k)) (let same : n ≡ count = omega arith in same)

module _ {X : Type 0} (f : ℕ → X) (n : ℕ) where
  pub made_length : length (map f (range_with_len 0 n)) ≡ n
  made_length = length-map-range_with_len f 0 n

  pub made_at : (i : ℕ) (d : X) → i < n → get_or (map f (range_with_len 0 n)) i d ≡ f i
  made_at i d inside = get_or-map-range_with_len f 0 n i i d inside (omega arith)

  -- what holds of each number below the end
  pub made_all : (P : X → Type 0) → ((i : ℕ) → i < n → P (f i)) → All P (map f (range_with_len 0 n))
  made_all P each = λ k d inside.
      let k_in : k < n = omega (arith, made_length) in
      rw (made_at k d k_in) (each k k_in)

  pub made_pairs : (R : X → X → Type 0) → ((i j : ℕ) → i < j → j < n → R (f i) (f j)) → AllPairs R (map f (range_with_len 0 n))
  made_pairs R each = λ i j d less inside.
      let j_in : j < n = omega (arith, made_length) in
      let i_in : i < n = omega arith in
      rw (made_at i d i_in, made_at j d j_in) (each i j less j_in)

  pub made_sum : (g : X → ℕ) (most : ℕ) → ((i : ℕ) → i < n → g (f i) ≤ most) → sum_by g (map f (range_with_len 0 n)) ≤ n * most
  made_sum g most each =
      let sum = sum_by-le g most (map f (range_with_len 0 n)) (made_all (λ x. g x ≤ most) each) in
      rw made_length at sum
