-- Tests, filters and greatest keys of lists of numbers, and of the numbers below a bound.
use Rattle.std.proofs.Common.{◌≡◌, ℕ, zero, suc, ◌+◌, ◌<◌, ◌≤◌, ◌⊎◌, max, Bool, true, false, cond, List, [], ◌∷◌, ◌++◌, inl, inr, refl, arith, ap, sym, ◌∙◌, eqb-true}
use Rattle.std.specs.Prelude.{◌||◌, ◌&&◌, nat_eq, filter, fold}
use Rattle.std.specs.List.{list_any, list_all, AllByRecursion}
use Rattle.std.proofs.lemmas.Bool.{cases_Bool, cases_eq, cases_lt, false_from_ne_true, and_parts, or_right}
use Rattle.std.proofs.lemmas.List.Elements.{filter-append}
use Rattle.pyr_graph.specs.Numbers.{holds, numbers, greatest}
use Rattle.pyr_graph.proofs.ListLemmas.{nat_eq-same, nat_eq-apart}

-- two tests that hold under one another agree
pub tests_agree : (p q : Bool) → (p ≡ true → q ≡ true) → (q ≡ true → p ≡ true) → p ≡ q
tests_agree true q there back = sym (there refl)
tests_agree false true there back = back refl
tests_agree false false there back = refl

fold-push : {A B : Type 0} (f : B → A → B) (a : B) (xs : List A) (x : A) → fold f a (xs ++ x ∷ []) ≡ f (fold f a xs) x
fold-push f a [] x = refl
fold-push f a (y ∷ xs) x = fold-push f (f a y) xs x

-- tests of a list with one more
pub list_any-snoc : (p : ℕ → Bool) (xs : List ℕ) (x : ℕ) → list_any p (xs ++ x ∷ []) ≡ (list_any p xs || p x)
list_any-snoc p [] x = elim (p x) as (λ b. (b || false) ≡ (false || b)) [ true ↦ refl | false ↦ refl ]
list_any-snoc p (y ∷ xs) x = elim (cases_Bool (p y)) [
  | inl is ↦ rw is
  | inr is ↦ rw is (list_any-snoc p xs x)
]

pub list_all-snoc : (p : ℕ → Bool) (xs : List ℕ) (x : ℕ) → list_all p (xs ++ x ∷ []) ≡ (list_all p xs && p x)
list_all-snoc p [] x = elim (p x) as (λ b. (b && true) ≡ (true && b)) [ true ↦ refl | false ↦ refl ]
list_all-snoc p (y ∷ xs) x = elim (cases_Bool (p y)) [
  | inl is ↦ rw is (list_all-snoc p xs x)
  | inr is ↦ rw is
]

-- what a filter keeps of a list with one more
pub filter-kept : (p : ℕ → Bool) (xs : List ℕ) (x : ℕ) → p x ≡ true → filter p (xs ++ x ∷ []) ≡ filter p xs ++ x ∷ []
filter-kept p xs x is = filter-append p xs (x ∷ []) ∙ rw is

pub filter-left_out : (p : ℕ → Bool) (xs : List ℕ) (x : ℕ) → p x ≡ false → filter p (xs ++ x ∷ []) ≡ filter p xs
filter-left_out p xs x is = filter-append p xs (x ∷ []) ∙ rw is (append-nil (filter p xs))
  where
    append-nil : (ys : List ℕ) → ys ++ [] ≡ ys
    append-nil [] = refl
    append-nil (y ∷ ys) = ap (λ (rest : List ℕ). y ∷ rest) (append-nil ys)

-- the greatest key of a list with one more
pub greatest-push : (key : ℕ → ℕ) (xs : List ℕ) (x : ℕ) → greatest key (xs ++ x ∷ []) ≡ max (greatest key xs) (key x)
greatest-push key xs x = fold-push (λ most y. max most (key y)) 0 xs x

pub greatest-filter : (key : ℕ → ℕ) (p : ℕ → Bool) (xs : List ℕ) (x : ℕ)
    → greatest key (filter p (xs ++ x ∷ [])) ≡ cond (p x) (max (greatest key (filter p xs)) (key x)) (greatest key (filter p xs))
greatest-filter key p xs x = elim (cases_Bool (p x)) [
  | inl is ↦ rw (filter-kept p xs x is, is) (greatest-push key (filter p xs) x)
  | inr is ↦ rw (filter-left_out p xs x is, is)
]

-- a filter that all pass keeps all
pub filter-all : (p : ℕ → Bool) (xs : List ℕ) → list_all p xs ≡ true → filter p xs ≡ xs
filter-all p [] is = refl
filter-all p (x ∷ xs) is = elim (cases_Bool (p x)) [
  | inl here ↦ rw here (ap (λ (rest : List ℕ). x ∷ rest) (filter-all p xs (rw here at is)))
  | inr here ↦ absurd (let e : false ≡ true = rw here at is in cc)
]

-- no key is greater than a bound on all of them
pub greatest-le : (key : ℕ → ℕ) (most : ℕ) → ((x : ℕ) → key x ≤ most) → (xs : List ℕ) → greatest key xs ≤ most
greatest-le key most below xs = under 0 xs (omega arith)
  where
    under : (m : ℕ) (xs : List ℕ) → m ≤ most → fold (λ n x. max n (key x)) m xs ≤ most
    under m [] le = le
    under m (x ∷ xs) le = under (max m (key x)) xs (omega (arith, below x))

-- the greatest of keys that agree on the list
pub greatest-same : (key other : ℕ → ℕ) (xs : List ℕ) → ((x : ℕ) → holds xs x ≡ true → key x ≡ other x) → greatest key xs ≡ greatest other xs
greatest-same key other xs same = from 0 xs same
  where
    from : (m : ℕ) (xs : List ℕ) → ((x : ℕ) → holds xs x ≡ true → key x ≡ other x) → fold (λ n x. max n (key x)) m xs ≡ fold (λ n x. max n (other x)) m xs
    from m [] same = refl
    from m (x ∷ xs) same =
        let here : key x ≡ other x = same x (rw (nat_eq-same x x refl)) in
        rw here (from (max m (other x)) xs (λ y held. same y (rw held (or_right (nat_eq y x) true refl))))

-- it is at least each, and one of them or 0
pub greatest-ge : (key : ℕ → ℕ) (xs : List ℕ) (x : ℕ) → holds xs x ≡ true → key x ≤ greatest key xs
greatest-ge key xs x held = from 0 xs held
  where
    above : (m : ℕ) (xs : List ℕ) → m ≤ fold (λ n y. max n (key y)) m xs
    above m [] = omega arith
    above m (y ∷ xs) = (let more = above (max m (key y)) xs in omega (arith, more))

    from : (m : ℕ) (xs : List ℕ) → holds xs x ≡ true → key x ≤ fold (λ n y. max n (key y)) m xs
    from m [] held = absurd (let e : false ≡ true = held in cc)
    from m (y ∷ xs) held = elim (cases_Bool (nat_eq x y)) [
      | inl is ↦ (let same : x ≡ y = eqb-true x y is in let more = above (max m (key y)) xs in rw same (omega (arith, more)))
      | inr other ↦ from (max m (key y)) xs (rw other at held)
    ]

pub greatest-reached : (key : ℕ → ℕ) (xs : List ℕ) → (greatest key xs ≡ 0) ⊎ ((x : ℕ) × (holds xs x ≡ true) × (key x ≡ greatest key xs))
greatest-reached key xs = elim (from 0 xs) [ inl none ↦ inl none | inr found ↦ inr found ]
  where
    from : (m : ℕ) (xs : List ℕ) → (fold (λ n y. max n (key y)) m xs ≡ m) ⊎ ((x : ℕ) × (holds xs x ≡ true) × (key x ≡ fold (λ n y. max n (key y)) m xs))
    from m [] = inl refl
    from m (y ∷ xs) = elim (from (max m (key y)) xs) [
      | inr (x, held, is) ↦ inr (x, rw held (or_right (nat_eq x y) true refl), is)
      | inl same ↦ elim (cases_lt m (key y)) [
        | inl more ↦ inr (y, rw (nat_eq-same y y refl), omega (arith, same, more))
        | inr less ↦ inl (omega (arith, same, less))
      ]
    ]

pub greatest-low : (key : ℕ → ℕ) (most : ℕ) (xs : List ℕ) → ((x : ℕ) → holds xs x ≡ true → key x ≤ most) → greatest key xs ≤ most
greatest-low key most xs below = elim (greatest-reached key xs) [
  | inl none ↦ omega (arith, none)
  | inr (x, held, is) ↦ omega (arith, is, below x held)
]

-- what a test that some element passes tells
pub some-passes : (p : ℕ → Bool) (xs : List ℕ) → list_any p xs ≡ true → (x : ℕ) × (holds xs x ≡ true) × (p x ≡ true)
some-passes p [] is = absurd (let e : false ≡ true = is in cc)
some-passes p (x ∷ xs) is = elim (cases_Bool (p x)) [
  | inl here ↦ (x, rw (nat_eq-same x x refl), here)
  | inr other ↦
      let (y, held, passes) = some-passes p xs (rw other at is) in
      (y, rw held (or_right (nat_eq y x) true refl), passes)
]

pub passes-some : (p : ℕ → Bool) (xs : List ℕ) (x : ℕ) → holds xs x ≡ true → p x ≡ true → list_any p xs ≡ true
passes-some p [] x held passes = absurd (let e : false ≡ true = held in cc)
passes-some p (y ∷ xs) x held passes = elim (cases_Bool (nat_eq x y)) [
  | inl is ↦
      let same : x ≡ y = eqb-true x y is in
      let here : p y ≡ true = rw (← same) passes in
      rw here
  | inr apart ↦ rw (passes-some p xs x (rw apart at held) passes) (or_right (p y) true refl)
]

-- a test of all the numbers below n
pub list_all-numbers : (p : ℕ → Bool) (n : ℕ) → ((t : ℕ) → t < n → p t ≡ true) → list_all p (numbers n) ≡ true
list_all-numbers p zero all = refl
list_all-numbers p (suc n) all = rw (list_all-snoc p (numbers n) n, list_all-numbers p n (λ t less. all t (omega (arith, less)))) (all n (omega arith))

-- a test of all that a list holds
pub list_all-holds : (p : ℕ → Bool) (xs : List ℕ) → ((t : ℕ) → holds xs t ≡ true → p t ≡ true) → list_all p xs ≡ true
list_all-holds p [] all = refl
list_all-holds p (x ∷ xs) all =
    let here : p x ≡ true = all x (rw (nat_eq-same x x refl)) in
    rw here (list_all-holds p xs (λ t held. all t (rw held (or_right (nat_eq t x) true refl))))

pub holds-list_all : (p : ℕ → Bool) (xs : List ℕ) (t : ℕ) → list_all p xs ≡ true → holds xs t ≡ true → p t ≡ true
holds-list_all p [] t all held = absurd (let e : false ≡ true = held in cc)
holds-list_all p (x ∷ xs) t all held =
    let both = and_parts (p x) (list_all p xs) all in
    elim (cases_Bool (nat_eq t x)) [
      | inl is ↦ (let same : t ≡ x = eqb-true t x is in rw same both.0)
      | inr other ↦ holds-list_all p xs t both.1 (rw other at held)
    ]

-- a test that all the numbers below n pass
pub each-number : (p : ℕ → Bool) (n t : ℕ) → list_all p (numbers n) ≡ true → t < n → p t ≡ true
each-number p zero t all less = absurd (omega arith)
each-number p (suc n) t all less =
    let both = and_parts (list_all p (numbers n)) (p n) (rw (list_all-snoc p (numbers n) n) at all) in
    elim (cases_eq t n) [
      | inl same ↦ rw same both.1
      | inr apart ↦ each-number p n t both.0 (omega arith)
    ]

-- what a filter keeps passes, and stood in the list
pub kept-held : (p : ℕ → Bool) (xs : List ℕ) (t : ℕ) → holds (filter p xs) t ≡ true → (holds xs t ≡ true) × (p t ≡ true)
kept-held p [] t held = absurd (let e : false ≡ true = held in cc)
kept-held p (x ∷ xs) t held = elim (cases_Bool (p x)) [
  | inl is ↦ elim (cases_Bool (nat_eq t x)) [
    | inl here ↦ (let same : t ≡ x = eqb-true t x here in (rw here, rw same is))
    | inr other ↦ (let later = kept-held p xs t (rw (is, other) at held) in (rw later.0 (or_right (nat_eq t x) true refl), later.1))
  ]
  | inr is ↦ (let later = kept-held p xs t (rw is at held) in (rw later.0 (or_right (nat_eq t x) true refl), later.1))
]

-- each number is below those behind it
abbrev pub Rises : List ℕ → Type 0
Rises [] = Unit {0}
Rises (x ∷ xs) = AllByRecursion (λ y. x < y) xs × Rises xs

above-head : (xs : List ℕ) (x n : ℕ) → AllByRecursion (λ y. x < y) xs → holds xs n ≡ true → x < n
above-head [] x n all held = absurd (let e : false ≡ true = held in cc)
above-head (y ∷ xs) x n all held = elim (cases_Bool (nat_eq n y)) [
  | inl is ↦ (let same : n ≡ y = eqb-true n y is in omega (arith, same, all.0))
  | inr apart ↦ above-head xs x n all.1 (rw apart at held)
]

-- two rising lists that hold the same numbers are equal
pub same-from_rising : (xs ys : List ℕ) → Rises xs → Rises ys → ((n : ℕ) → holds xs n ≡ holds ys n) → xs ≡ ys
same-from_rising [] [] up up' same = refl
same-from_rising [] (y ∷ ys) up up' same = absurd (let e : false ≡ true = rw (nat_eq-same y y refl) at (same y) in cc)
same-from_rising (x ∷ xs) [] up up' same = absurd (let e : true ≡ false = rw (nat_eq-same x x refl) at (same x) in cc)
same-from_rising (x ∷ xs) (y ∷ ys) up up' same =
    let first : x ≡ y = first-same in
    rw (first, same-from_rising xs ys up.1 up'.1 later)
  where
    x-held : holds (y ∷ ys) x ≡ true
    x-held = sym (same x) ∙ rw (nat_eq-same x x refl)

    y-held : holds (x ∷ xs) y ≡ true
    y-held = same y ∙ rw (nat_eq-same y y refl)

    first-same : x ≡ y
    first-same = elim (cases_eq x y) [
      | inl is ↦ is
      | inr apart ↦
          let one = above-head ys y x up'.0 (rw (nat_eq-apart x y apart) at x-held) in
          let two = above-head xs x y up.0 (rw (nat_eq-apart y x (λ is. apart (sym is))) at y-held) in
          absurd (omega (arith, one, two))
    ]

    not-first : (zs : List ℕ) (z : ℕ) → AllByRecursion (λ w. z < w) zs → holds zs z ≡ false
    not-first zs z all = false_from_ne_true (holds zs z) (λ held. let less = above-head zs z z all held in omega (arith, less))

    not-second : holds ys x ≡ false
    not-second = rw first-same (not-first ys y up'.0)

    later : (n : ℕ) → holds xs n ≡ holds ys n
    later n = elim (cases_eq n x) [
      | inl is ↦ rw is (not-first xs x up.0 ∙ sym not-second)
      | inr apart ↦
          let other : nat_eq n x ≡ false = nat_eq-apart n x apart in
          let other' : nat_eq n y ≡ false = rw (← first-same) other in
          rw (other, other') at (same n)
    ]

AllBy-push : (P : ℕ → Type 0) (xs : List ℕ) (x : ℕ) → AllByRecursion P xs → P x → AllByRecursion P (xs ++ x ∷ [])
AllBy-push P [] x all this = (this, tt)
AllBy-push P (y ∷ xs) x all this = (all.0, AllBy-push P xs x all.1 this)

AllBy-weaker : (P Q : ℕ → Type 0) → ((x : ℕ) → P x → Q x) → (xs : List ℕ) → AllByRecursion P xs → AllByRecursion Q xs
AllBy-weaker P Q weaker [] all = tt
AllBy-weaker P Q weaker (x ∷ xs) all = (weaker x all.0, AllBy-weaker P Q weaker xs all.1)

Rises-push : (xs : List ℕ) (x : ℕ) → Rises xs → AllByRecursion (λ y. y < x) xs → Rises (xs ++ x ∷ [])
Rises-push [] x up below = (tt, tt)
Rises-push (y ∷ xs) x up below = (AllBy-push (λ z. y < z) xs x up.0 below.0, Rises-push xs x up.1 below.1)

-- what a filter keeps of the numbers below n
kept-below : (p : ℕ → Bool) (n : ℕ) → AllByRecursion (λ y. y < n) (filter p (numbers n))
kept-below p zero = tt
kept-below p (suc n) =
    let old = AllBy-weaker (λ y. y < n) (λ y. y < suc n) (λ y less. omega (arith, less)) (filter p (numbers n)) (kept-below p n) in
    elim (cases_Bool (p n)) [
      | inl is ↦ rw (filter-kept p (numbers n) n is) (AllBy-push (λ y. y < suc n) (filter p (numbers n)) n old (omega arith))
      | inr is ↦ rw (filter-left_out p (numbers n) n is) old
    ]

pub kept-rises : (p : ℕ → Bool) (n : ℕ) → Rises (filter p (numbers n))
kept-rises p zero = tt
kept-rises p (suc n) = elim (cases_Bool (p n)) [
  | inl is ↦ rw (filter-kept p (numbers n) n is) (Rises-push (filter p (numbers n)) n (kept-rises p n) (kept-below p n))
  | inr is ↦ rw (filter-left_out p (numbers n) n is) (kept-rises p n)
]

pub kept-number : (p : ℕ → Bool) (n m : ℕ) → holds (filter p (numbers n)) m ≡ true → (m < n) × (p m ≡ true)
kept-number p zero m held = absurd (let e : false ≡ true = held in cc)
kept-number p (suc n) m held = elim (cases_Bool (p n)) [
  | inl is ↦
      let either : (holds (filter p (numbers n)) m || nat_eq m n) ≡ true =
      sym (list_any-snoc (nat_eq m) (filter p (numbers n)) n) ∙ rw (filter-kept p (numbers n) n is) at held in
      elim (cases_Bool (holds (filter p (numbers n)) m)) [
        | inl old ↦ (let known = kept-number p n m old in (omega (arith, known.0), known.1))
        | inr new ↦
            let same : m ≡ n = eqb-true m n (rw new at either) in
            (omega (arith, same), rw same is)
      ]
  | inr is ↦
      let old : holds (filter p (numbers n)) m ≡ true = rw (filter-left_out p (numbers n) n is) at held in
      let known = kept-number p n m old in
      (omega (arith, known.0), known.1)
]

pub number-kept : (p : ℕ → Bool) (n m : ℕ) → m < n → p m ≡ true → holds (filter p (numbers n)) m ≡ true
number-kept p zero m less passes = absurd (omega arith)
number-kept p (suc n) m less passes = elim (cases_eq m n) [
  | inl same ↦
      let is : p n ≡ true = rw (← same) passes in
      rw (filter-kept p (numbers n) n is, list_any-snoc (nat_eq m) (filter p (numbers n)) n, nat_eq-same m n same) (or_right (holds (filter p (numbers n)) m) true refl)
  | inr apart ↦
      let old = number-kept p n m (omega arith) passes in
      elim (cases_Bool (p n)) [
        | inl is ↦ rw (filter-kept p (numbers n) n is, list_any-snoc (nat_eq m) (filter p (numbers n)) n, old)
        | inr is ↦ rw (filter-left_out p (numbers n) n is) old
      ]
]
