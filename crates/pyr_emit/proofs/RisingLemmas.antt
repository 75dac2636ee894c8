-- A rising list is what passes the test of being in it.
use Rattle.std.proofs.Common.{◌≡◌, ◌≢◌, ℕ, zero, suc, ◌+◌, ◌<◌, ◌≤◌, ◌||◌, Bool, false, cond, List, [], ◌∷◌, length, get_or, All, inl, inr, refl, sym, ap, ◌∙◌, subst, arith}
use Rattle.std.specs.Prelude.{⊤, nat_eq, AllPairs, count_by, Some, slice_get}
use Rattle.std.specs.List.{list_any, filter, range_with_len}
use Rattle.std.specs.List.Sorted.{IsPermutation, IsNonDecreasingBy}
use Rattle.std.proofs.lemmas.Bool.{cases_eq, cases_order, eq-eqb, ne_eqb, eqb-true, or_from, or_left}
use Rattle.std.proofs.lemmas.Option.{slice_get_within, slice_get-get_or, get_or_from_slice_get}
use Rattle.std.proofs.lemmas.List.Sorted.{All-permutation, list_any-IsPermutation, sum_by-IsPermutation}
use Rattle.std.proofs.lemmas.List.Elements.{All-map, All-filter}
use Rattle.pyr_num.specs.declared.ids.DatumId.{DatumId}
use Rattle.pyr_graph.specs.System.{datum_numbers}
use Rattle.pyr_emit.proofs.Ranges.{range_below}
use Rattle.pyr_bundle.proofs.Sums.{at_most_one, at_most, one_place, if_one, one_if}

-- each number is below the next, all from the one bound to before the other
abbrev IsRising : ℕ → ℕ → List ℕ → Type 0
IsRising low end [] = ⊤
IsRising low end (x ∷ xs) = (low ≤ x) × (x < end) × IsRising (x + 1) end xs

not_below : (low end : ℕ) (xs : List ℕ) (d : ℕ) → IsRising low end xs → d < low → list_any (nat_eq d) xs ≡ false
not_below low end [] d is less = refl
not_below low end (x ∷ xs) d is less =
    or_from (nat_eq d x) (list_any (nat_eq d) xs) (ne_eqb d x (λ e. omega (arith, e, is.0))) (not_below (x + 1) end xs d is.2 (omega (arith, is.0)))

filter_rising : (f : ℕ → Bool) (low n end : ℕ) (xs : List ℕ) → low + n ≡ end → IsRising low end xs → ((d : ℕ) → low ≤ d → d < end → f d ≡ list_any (nat_eq d) xs) → filter f (range_with_len low n) ≡ xs
filter_rising f low zero end [] ends is same = refl
filter_rising f low zero end (x ∷ xs) ends is same = absurd (omega (arith, ends, is.0, is.1))
filter_rising f low (suc n) end [] ends is same =
    ap (λ c. cond c (low ∷ filter f (range_with_len (low + 1) n)) (filter f (range_with_len (low + 1) n))) (same low (omega arith) (omega arith))
    ∙ filter_rising f (low + 1) n end [] (omega arith) tt (λ d l m. same d (omega arith) m)
filter_rising f low (suc n) end (x ∷ xs) ends is same = elim (cases_eq low x) [
  | inl here ↦
      ap (λ c. cond c (low ∷ filter f (range_with_len (low + 1) n)) (filter f (range_with_len (low + 1) n))) (same low (omega arith) (omega arith) ∙ or_left (nat_eq low x) (list_any (nat_eq low) xs) (eq-eqb low x here))
      ∙ ap (λ (ys : List ℕ). low ∷ ys) (filter_rising f (low + 1) n end xs (omega arith) (subst (λ k. IsRising (k + 1) end xs) (sym here) is.2)
      (λ d l m. same d (omega arith) m ∙ ap (λ c. c || list_any (nat_eq d) xs) (ne_eqb d x (λ e. omega (arith, e, here, l)))))
      ∙ ap (λ k. k ∷ xs) here
  | inr apart ↦
      let above : low + 1 ≤ x = omega (arith, is.0, apart) in
      ap (λ c. cond c (low ∷ filter f (range_with_len (low + 1) n)) (filter f (range_with_len (low + 1) n)))
      (same low (omega arith) (omega arith) ∙ not_below (low + 1) end (x ∷ xs) low (above, is.1, is.2) (omega arith))
      ∙ filter_rising f (low + 1) n end (x ∷ xs) (omega arith) (above, is.1, is.2) (λ d l m. same d (omega arith) m)
]

IsRising-from_pairs : (low end : ℕ) (xs : List ℕ) → ((i : ℕ) → i < length xs → (low ≤ get_or xs i 0) × (get_or xs i 0 < end))
    → ((i j : ℕ) → i < j → j < length xs → get_or xs i 0 < get_or xs j 0) → IsRising low end xs
IsRising-from_pairs low end [] each pairs = tt
IsRising-from_pairs low end (x ∷ xs) each pairs = (
  (each 0 (omega arith)).0,
  (each 0 (omega arith)).1,
  IsRising-from_pairs (x + 1) end xs
      (λ i l. (let less : x < get_or xs i 0 = pairs 0 (suc i) (omega arith) (omega arith) in omega arith, (each (suc i) (omega arith)).1))
      (λ i j l m. pairs (suc i) (suc j) (omega arith) (omega arith)),
)

-- how often a number stands in a list
abbrev times : ℕ → List ℕ → ℕ
times v xs = count_by (nat_eq v) xs

times_once : (v : ℕ) (xs : List ℕ) → AllPairs (λ d e. d ≢ e) xs → times v xs ≤ 1
times_once v xs apart =
    at_most_one (λ x. cond (nat_eq v x) 1 0) xs (λ i x e. at_most (nat_eq v x)) (λ i j x y e a f b. same i j x y e f (eqb-true v x (if_one (nat_eq v x) a)) (eqb-true v y (if_one (nat_eq v y) b)))
  where
    same : (i j x y : ℕ) → slice_get xs i ≡ Some x → slice_get xs j ≡ Some y → v ≡ x → v ≡ y → i ≡ j
    same i j x y e f vx vy =
        let i_in = slice_get_within xs i x e in
        let j_in = slice_get_within xs j y f in
        let xi = get_or_from_slice_get xs i x 0 e in
        let yj = get_or_from_slice_get xs j y 0 f in
        elim (cases_order i j) [
          | inl equal ↦ equal
          | inr (inl less) ↦ absurd (apart i j 0 less j_in (xi ∙ sym vx ∙ vy ∙ sym yj))
          | inr (inr more) ↦ absurd (apart j i 0 more i_in (yj ∙ sym vy ∙ vx ∙ sym xi))
        ]

-- the sorted list of different numbers is what stands among them, by rising number
pub rising_is : (list sorted : List ℕ) → AllPairs (λ d e. d ≢ e) list → IsPermutation list sorted → IsNonDecreasingBy (λ x. x) sorted
    → (count : ℕ) → All (λ d. d < count) list → sorted ≡ filter (λ d. list_any (nat_eq d) list) (range_with_len 0 count)
rising_is list sorted apart moved ordered count below =
    sym (filter_rising (λ d. list_any (nat_eq d) list) 0 count count sorted (omega arith)
    (IsRising-from_pairs 0 count sorted (λ i l. (omega arith, All-permutation (λ d. d < count) list sorted moved below i 0 l)) strict)
    (λ d l m. list_any-IsPermutation (nat_eq d) list sorted moved))
  where
    strict : (i j : ℕ) → i < j → j < length sorted → get_or sorted i 0 < get_or sorted j 0
    strict i j less inside =
        let v = get_or sorted i 0 in
        let low = ordered i j 0 (omega arith) inside in
        let few : times v sorted ≤ 1 = let a = times_once v list apart in let b = sum_by-IsPermutation (λ x. cond (nat_eq v x) 1 0) list sorted moved in omega (arith, a, b) in
        elim (cases_eq v (get_or sorted j 0)) [
          | inr other ↦ omega (arith, low, other)
          | inl same ↦ absurd (
              let place = one_place (λ x. cond (nat_eq v x) 1 0) sorted i j v (get_or sorted j 0)
              (slice_get-get_or sorted i 0 (omega arith)) (one_if (nat_eq v v) (eq-eqb v v refl))
              (slice_get-get_or sorted j 0 inside) (one_if (nat_eq v (get_or sorted j 0)) (eq-eqb v (get_or sorted j 0) same)) few in
              omega (arith, place))
        ]

-- the same of the data of a task
abbrev held_by : List DatumId → ℕ → List ℕ
held_by datums count = filter (λ d. list_any (nat_eq d) (datum_numbers datums)) (range_with_len 0 count)

pub held_is : (list : List ℕ) (lent datums : List DatumId) (count : ℕ) → lent ≡ datums → ((n : ℕ) → All (λ d. d < n) (datum_numbers lent) → list ≡ held_by lent n) → All (λ d. d.0 < count) datums → list ≡ held_by datums count
held_is list lent datums count same are below =
    are count (subst (λ (l : List DatumId). All (λ d. d < count) (datum_numbers l)) (sym same) (All-map (λ d. d < count) (λ (d : DatumId). d.0) datums below)) ∙ ap (λ (l : List DatumId). held_by l count) same

pub held_below : (list : List ℕ) (datums : List DatumId) (count : ℕ) → list ≡ held_by datums count → All (λ d. d < count) list
held_below list datums count is =
    subst (All (λ d. d < count)) (sym is) (All-filter (λ d. list_any (nat_eq d) (datum_numbers datums)) (λ d. d < count) (range_with_len 0 count) (range_below count))
