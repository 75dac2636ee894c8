-- Filtered ranges of numbers.
use Rattle.std.proofs.Common.{◌≡◌, ℕ, zero, suc, ◌+◌, ◌<◌, Bool, true, false, cond, List, [], ◌∷◌, ◌++◌, length, map, take, get_or, All, append_assoc, refl, sym, ap, ◌∙◌, arith}
use Rattle.std.specs.List.{filter, flat_map, range_with_len}
use Rattle.std.proofs.lemmas.List.{append-nil, map-append, map-id}
use Rattle.std.proofs.lemmas.List.Elements.{filter-append, filter_more}
use Rattle.std.proofs.lemmas.List.FromFn.{map-range_with_len_more, length-range_with_len, get_or-range_with_len}
use Rattle.std.proofs.lemmas.Grind.{flat_map-append}

-- one number more
pub range_more : (n : ℕ) → range_with_len 0 (n + 1) ≡ range_with_len 0 n ++ n ∷ []
range_more n =
    sym (map-id (range_with_len 0 (n + 1))) ∙ map-range_with_len_more (λ (x : ℕ). x) 0 n n (omega arith) ∙ ap (λ (xs : List ℕ). xs ++ n ∷ []) (map-id (range_with_len 0 n))

pub filtered_more : (f : ℕ → Bool) (n : ℕ) → filter f (range_with_len 0 (n + 1)) ≡ filter f (range_with_len 0 n) ++ cond (f n) (n ∷ []) []
filtered_more f n =
    ap (filter f) (range_more n) ∙ filter-append f (range_with_len 0 n) (n ∷ [])

pub made_more : {X : Type 0} (f : ℕ → X) (n : ℕ) → map f (range_with_len 0 (n + 1)) ≡ map f (range_with_len 0 n) ++ f n ∷ []
made_more f n = map-range_with_len_more f 0 n n (omega arith)

pub pieces_more : {X : Type 0} (g : ℕ → List X) (n : ℕ) → flat_map g (range_with_len 0 (n + 1)) ≡ flat_map g (range_with_len 0 n) ++ g n
pieces_more g n =
    ap (flat_map g) (range_more n) ∙ flat_map-append g (range_with_len 0 n) (n ∷ []) ∙ ap (λ (xs : List _). flat_map g (range_with_len 0 n) ++ xs) (append-nil (g n))

pub map_map : {X Y Z : Type 0} (f : Y → Z) (g : X → Y) (xs : List X) → map f (map g xs) ≡ map (λ x. f (g x)) xs
map_map f g [] = refl
map_map f g (x ∷ xs) = ap (λ (ys : List _). f (g x) ∷ ys) (map_map f g xs)

-- all numbers of a range are below its end
pub range_below : (n : ℕ) → All (λ k. k < n) (range_with_len 0 n)
range_below n = λ k d inside.
    let k_in : k < n = omega (arith, length-range_with_len 0 n) in
    rw (get_or-range_with_len 0 n k d k_in) (omega arith)

-- what passes one test passes another, number by number
pub filter_same : (f g : ℕ → Bool) (lo n : ℕ) → ((k : ℕ) → k < lo + n → f k ≡ g k) → filter f (range_with_len lo n) ≡ filter g (range_with_len lo n)
filter_same f g lo zero same = refl
filter_same f g lo (suc n) same =
    ap (λ c. cond c (lo ∷ filter f (range_with_len (lo + 1) n)) (filter f (range_with_len (lo + 1) n))) (same lo (omega arith))
    ∙ ap (λ (xs : List ℕ). cond (g lo) (lo ∷ xs) xs) (filter_same f g (lo + 1) n (λ k l. same k (omega arith)))

module _ {X : Type 0} (g : ℕ → X) (f : ℕ → Bool) where
  -- what is made of the numbers of a range that pass, with one more
  pub made_yes : (n : ℕ) (xs ys zs : List X) → f n ≡ true → ys ≡ zs ++ map g (filter f (range_with_len 0 n)) → xs ≡ ys ++ g n ∷ [] → xs ≡ zs ++ map g (filter f (range_with_len 0 (n + 1)))
  made_yes n xs ys zs passes was is =
      is ∙ ap (λ (l : List X). l ++ g n ∷ []) was ∙ append_assoc zs (map g (filter f (range_with_len 0 n))) (g n ∷ [])
      ∙ ap (λ (l : List X). zs ++ l) (sym (map-append g (filter f (range_with_len 0 n)) (n ∷ [])) ∙ ap (λ c. map g (filter f (range_with_len 0 n) ++ cond c (n ∷ []) [])) (sym passes) ∙ ap (map g) (sym (filtered_more f n)))

  pub made_no : (n : ℕ) (ys zs : List X) → f n ≡ false → ys ≡ zs ++ map g (filter f (range_with_len 0 n)) → ys ≡ zs ++ map g (filter f (range_with_len 0 (n + 1)))
  made_no n ys zs fails was =
      was ∙ ap (λ (l : List ℕ). zs ++ map g l) (sym (append-nil (filter f (range_with_len 0 n))) ∙ ap (λ c. filter f (range_with_len 0 n) ++ cond c (n ∷ []) []) (sym fails) ∙ sym (filtered_more f n))

  -- the same of the elements of a list
  pub listed_yes : (list : List ℕ) (i : ℕ) (xs ys zs : List X) → i < length list → f (get_or list i 0) ≡ true → ys ≡ zs ++ map g (filter f (take i list)) → xs ≡ ys ++ g (get_or list i 0) ∷ [] → xs ≡ zs ++ map g (filter f (take (i + 1) list))
  listed_yes list i xs ys zs inside passes was is =
      let x = get_or list i 0 in
      is ∙ ap (λ (l : List X). l ++ g x ∷ []) was ∙ append_assoc zs (map g (filter f (take i list))) (g x ∷ [])
      ∙ ap (λ (l : List X). zs ++ l) (sym (map-append g (filter f (take i list)) (x ∷ [])) ∙ ap (λ c. map g (filter f (take i list) ++ cond c (x ∷ []) [])) (sym passes) ∙ ap (map g) (sym (filter_more f list i 0 inside)))

  pub listed_no : (list : List ℕ) (i : ℕ) (ys zs : List X) → i < length list → f (get_or list i 0) ≡ false → ys ≡ zs ++ map g (filter f (take i list)) → ys ≡ zs ++ map g (filter f (take (i + 1) list))
  listed_no list i ys zs inside fails was =
      let x = get_or list i 0 in
      was ∙ ap (λ (l : List ℕ). zs ++ map g l) (sym (append-nil (filter f (take i list))) ∙ ap (λ c. filter f (take i list) ++ cond c (x ∷ []) []) (sym fails) ∙ sym (filter_more f list i 0 inside))

-- the pieces of the numbers of a range that pass, with one more
module _ {X : Type 0} (g : ℕ → List X) (f : ℕ → Bool) where
  pub pieces_yes : (n : ℕ) (xs ys : List X) → f n ≡ true → ys ≡ flat_map g (filter f (range_with_len 0 n)) → xs ≡ ys ++ g n → xs ≡ flat_map g (filter f (range_with_len 0 (n + 1)))
  pieces_yes n xs ys passes was is =
      is ∙ ap (λ (l : List X). l ++ g n) was ∙ ap (λ (l : List X). flat_map g (filter f (range_with_len 0 n)) ++ l) (sym (append-nil (g n)))
      ∙ sym (flat_map-append g (filter f (range_with_len 0 n)) (n ∷ [])) ∙ ap (λ c. flat_map g (filter f (range_with_len 0 n) ++ cond c (n ∷ []) [])) (sym passes) ∙ ap (flat_map g) (sym (filtered_more f n))

  pub pieces_no : (n : ℕ) (ys : List X) → f n ≡ false → ys ≡ flat_map g (filter f (range_with_len 0 n)) → ys ≡ flat_map g (filter f (range_with_len 0 (n + 1)))
  pieces_no n ys fails was =
      was ∙ ap (flat_map g) (sym (append-nil (filter f (range_with_len 0 n))) ∙ ap (λ c. filter f (range_with_len 0 n) ++ cond c (n ∷ []) []) (sym fails) ∙ sym (filtered_more f n))
