-- Sums over the numbers below a bound.
use Rattle.std.proofs.Common.{◌≡◌, ℕ, zero, suc, ◌+◌, ◌*◌, ◌<◌, ◌≤◌, ◌||◌, Bool, true, false, cond, List, [], ◌∷◌, length, map, take, get_or, inl, inr, refl, sym, ap, ◌∙◌, arith}
use Rattle.std.specs.Prelude.{nat_eq, sum_by}
use Rattle.std.specs.List.{filter, flat_map, list_any, range_with_len}
use Rattle.std.proofs.lemmas.Bool.{cases_Bool, cases_eq, cases_lt, eq-eqb, eqb-true, or_cases}
use Rattle.std.proofs.lemmas.List.{take_all}
use Rattle.std.proofs.lemmas.List.Sums.{sum_by-cons, sum_by-append, sum_by_more, sum_by_push}
use Rattle.pyr_emit.proofs.Ranges.{range_more}

-- f 0 + .. + f (n - 1)
abbrev pub total : ℕ → (ℕ → ℕ) → ℕ
total zero f = 0
total (suc n) f = total n f + f n

-- 1 where the test passes, else 0
abbrev pub one : Bool → ℕ
one b = cond b 1 0

abbrev pub where_true : Bool → ℕ → ℕ
where_true b n = cond b n 0

pub one-low : (b : Bool) → one b ≤ 1
one-low true = omega arith
one-low false = omega arith

pub one-true : (b : Bool) → 1 ≤ one b → b ≡ true
one-true true h = refl
one-true false h = absurd (omega (arith, h))

pub where-true : (b : Bool) (n : ℕ) → 1 ≤ where_true b n → (b ≡ true) × (1 ≤ n)
where-true true n h = (refl, h)
where-true false n h = absurd (omega (arith, h))

pub where-low : (b : Bool) (n m : ℕ) → n ≤ m → where_true b n ≤ m
where-low true n m h = h
where-low false n m h = omega arith

pub total_same : (n : ℕ) (f g : ℕ → ℕ) → ((k : ℕ) → k < n → f k ≡ g k) → total n f ≡ total n g
total_same zero f g same = refl
total_same (suc n) f g same =
    omega (arith, total_same n f g (λ k l. same k (omega arith)), same n (omega arith))

pub total_le : (n : ℕ) (f g : ℕ → ℕ) → ((k : ℕ) → k < n → f k ≤ g k) → total n f ≤ total n g
total_le zero f g less = omega arith
total_le (suc n) f g less =
    omega (arith, total_le n f g (λ k l. less k (omega arith)), less n (omega arith))

pub total_most : (n m : ℕ) (f : ℕ → ℕ) → ((k : ℕ) → k < n → f k ≤ m) → total n f ≤ n * m
total_most zero m f less = omega arith
total_most (suc n) m f less =
    let rest = total_most n m f (λ k l. less k (omega arith)) in
    let last = less n (omega arith) in
    let split : suc n * m ≡ n * m + m = omega arith in
    omega (arith, rest, last, split)

pub total_add : (n : ℕ) (f g : ℕ → ℕ) → total n (λ k. f k + g k) ≡ total n f + total n g
total_add zero f g = refl
total_add (suc n) f g = omega (arith, total_add n f g)

pub total_none : (n : ℕ) (f : ℕ → ℕ) → ((k : ℕ) → k < n → f k ≡ 0) → total n f ≡ 0
total_none zero f none = refl
total_none (suc n) f none =
    omega (arith, total_none n f (λ k l. none k (omega arith)), none n (omega arith))

-- the order of two sums
pub total_swap : (m n : ℕ) (f : ℕ → ℕ → ℕ) → total m (λ a. total n (f a)) ≡ total n (λ b. total m (λ a. f a b))
total_swap zero n f = sym (total_none n (λ b. 0) (λ k l. refl))
total_swap (suc m) n f =
    ap (λ k. k + total n (f m)) (total_swap m n f) ∙ sym (total_add n (λ b. total m (λ a. f a b)) (f m))

-- a term is no more than the sum
pub term_low : (n k : ℕ) (f : ℕ → ℕ) → k < n → f k ≤ total n f
term_low zero k f inside = absurd (omega (arith, inside))
term_low (suc n) k f inside = elim (cases_eq k n) [
  | inl same ↦ (let e = ap f same in omega (arith, e))
  | inr other ↦ (let less = term_low n k f (omega (arith, inside, other)) in omega (arith, less))
]

-- where the sum isn't 0, some term is not
pub some_term : (n : ℕ) (f : ℕ → ℕ) → 1 ≤ total n f → (k : ℕ) × (k < n) × (1 ≤ f k)
some_term zero f h = absurd (omega (arith, h))
some_term (suc n) f h = elim (cases_lt 0 (f n)) [
  | inl here ↦ (n, omega arith, omega (arith, here))
  | inr none ↦ (let (k, inside, is) = some_term n f (omega (arith, h, none)) in (k, omega (arith, inside), is))
]

-- where one term at most isn't 0, and each is at most a bound, the sum is
pub total_once : (n m : ℕ) (f : ℕ → ℕ) → ((k : ℕ) → k < n → f k ≤ m) → ((i j : ℕ) → i < n → j < n → 1 ≤ f i → 1 ≤ f j → i ≡ j) → total n f ≤ m
total_once zero m f low once = omega arith
total_once (suc n) m f low once = elim (cases_lt 0 (f n)) [
  | inr none ↦ (let rest = total_once n m f (λ k l. low k (omega arith)) (λ i j l k. once i j (omega arith) (omega arith)) in omega (arith, rest, none))
  | inl here ↦ (
      let others = total_none n f (λ k l. elim (cases_lt 0 (f k)) [
        | inr none ↦ omega (arith, none)
        | inl also ↦ (let same = once k n (omega (arith, l)) (omega arith) (omega (arith, also)) (omega (arith, here)) in absurd (omega (arith, same, l)))
      ]) in
      let last = low n (omega arith) in omega (arith, others, last))
]

-- a sum with one term
pub total_at : (n a v : ℕ) → a < n → total n (λ k. where_true (nat_eq a k) v) ≡ v
total_at n a v inside =
    let f : ℕ → ℕ = λ k. where_true (nat_eq a k) v in
    let most = total_once n v f (λ k l. where-low (nat_eq a k) v v (omega arith))
    (λ i j l m x y. sym (eqb-true a i (where-true (nat_eq a i) v x).0) ∙ eqb-true a j (where-true (nat_eq a j) v y).0) in
    let least = term_low n a f inside in
    let here : f a ≡ v = ap (λ b. where_true b v) (eq-eqb a a refl) in
    omega (arith, most, least, here)

-- sums over lists
pub sum_range : (n : ℕ) (f : ℕ → ℕ) → sum_by f (range_with_len 0 n) ≡ total n f
sum_range zero f = refl
sum_range (suc n) f =
    let next : suc n ≡ n + 1 = omega arith in
    ap (λ k. sum_by f (range_with_len 0 k)) next ∙ ap (sum_by f) (range_more n) ∙ sum_by_push f (range_with_len 0 n) n ∙ ap (λ k. k + f n) (sum_range n f)

pub sum_filter : {X : Type 0} (p : X → Bool) (f : X → ℕ) (xs : List X) → sum_by f (filter p xs) ≡ sum_by (λ x. where_true (p x) (f x)) xs
sum_filter p f [] = refl
sum_filter p f (x ∷ xs) = elim (cases_Bool (p x)) [
  | inl yes' ↦ (
      ap (λ b. sum_by f (cond b (x ∷ filter p xs) (filter p xs))) yes' ∙ sum_by-cons f x (filter p xs) ∙ ap (λ k. f x + k) (sum_filter p f xs)
      ∙ ap (λ b. where_true b (f x) + sum_by (λ y. where_true (p y) (f y)) xs) (sym yes') ∙ sym (sum_by-cons (λ y. where_true (p y) (f y)) x xs))
  | inr no' ↦ (
      ap (λ b. sum_by f (cond b (x ∷ filter p xs) (filter p xs))) no' ∙ sum_filter p f xs
      ∙ plus (sum_by (λ y. where_true (p y) (f y)) xs)
      ∙ ap (λ b. where_true b (f x) + sum_by (λ y. where_true (p y) (f y)) xs) (sym no') ∙ sym (sum_by-cons (λ y. where_true (p y) (f y)) x xs))
]
  where
    plus : (n : ℕ) → n ≡ 0 + n
    plus n = omega arith

pub sum_map : {X Y : Type 0} (f : Y → ℕ) (g : X → Y) (xs : List X) → sum_by f (map g xs) ≡ sum_by (λ x. f (g x)) xs
sum_map f g [] = refl
sum_map f g (x ∷ xs) =
    sum_by-cons f (g x) (map g xs) ∙ ap (λ k. f (g x) + k) (sum_map f g xs) ∙ sym (sum_by-cons (λ y. f (g y)) x xs)

pub sum_pieces : {X Y : Type 0} (f : Y → ℕ) (g : X → List Y) (xs : List X) → sum_by f (flat_map g xs) ≡ sum_by (λ x. sum_by f (g x)) xs
sum_pieces f g [] = refl
sum_pieces f g (x ∷ xs) =
    sum_by-append f (g x) (flat_map g xs) ∙ ap (λ k. sum_by f (g x) + k) (sum_pieces f g xs) ∙ sym (sum_by-cons (λ y. sum_by f (g y)) x xs)

pub sum_same : {X : Type 0} (f g : X → ℕ) → ((x : X) → f x ≡ g x) → (xs : List X) → sum_by f xs ≡ sum_by g xs
sum_same f g same xs = ap (λ (h : _ → ℕ). sum_by h xs) (λ i x. same x i)

pub length_sum : {X : Type 0} (xs : List X) → length xs ≡ sum_by (λ x. 1) xs
length_sum [] = refl
length_sum (x ∷ xs) = omega (arith, length_sum xs, sum_by-cons (λ y. 1) x xs)

-- the sum over a list, by place
pub sum_places : {X : Type 0} (f : X → ℕ) (d : X) (xs : List X) → sum_by f xs ≡ total (length xs) (λ k. f (get_or xs k d))
sum_places f d xs = ap (sum_by f) (sym (take_all (length xs) xs (omega arith))) ∙ upto (length xs) (omega arith)
  where
    upto : (n : ℕ) → n ≤ length xs → sum_by f (take n xs) ≡ total n (λ k. f (get_or xs k d))
    upto zero l = refl
    upto (suc n) l =
        let next : suc n ≡ n + 1 = omega arith in
        ap (λ k. sum_by f (take k xs)) next ∙ sum_by_more f xs n d (omega (arith, l)) ∙ ap (λ k. k + f (get_or xs n d)) (upto n (omega (arith, l)))

-- a list holds no more different numbers than it is long
pub held_low : (n : ℕ) (xs : List ℕ) → total n (λ k. one (list_any (nat_eq k) xs)) ≤ length xs
held_low n [] = let none = total_none n (λ k. 0) (λ k l. refl) in omega (arith, none)
held_low n (x ∷ xs) =
    let split = total_le n (λ k. one (nat_eq k x || list_any (nat_eq k) xs)) (λ k. one (nat_eq k x) + one (list_any (nat_eq k) xs)) (λ k l. either (nat_eq k x) (list_any (nat_eq k) xs)) in
    let sum = total_add n (λ k. one (nat_eq k x)) (λ k. one (list_any (nat_eq k) xs)) in
    let first = total_once n 1 (λ k. one (nat_eq k x)) (λ k l. one-low (nat_eq k x)) (λ i j l m a b. eqb-true i x (one-true (nat_eq i x) a) ∙ sym (eqb-true j x (one-true (nat_eq j x) b))) in
    let rest = held_low n xs in
    omega (arith, split, sum, first, rest)
  where
    either : (a b : Bool) → one (a || b) ≤ one a + one b
    either true b = omega arith
    either false b = omega arith

-- where a test passes for one element, the count isn't 0
pub any_counts : {X : Type 0} (test : X → Bool) (f : X → ℕ) → ((x : X) → test x ≡ true → 1 ≤ f x) → (xs : List X) → list_any test xs ≡ true → 1 ≤ sum_by f xs
any_counts test f some [] is = absurd (let e : false ≡ true = is in cc)
any_counts test f some (x ∷ xs) is = elim (or_cases (test x) (list_any test xs) is) [
  | inl here ↦ omega (arith, some x here, sum_by-cons f x xs)
  | inr there ↦ omega (arith, any_counts test f some xs there, sum_by-cons f x xs)
]
