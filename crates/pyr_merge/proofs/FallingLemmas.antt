-- The clusters with their loads, sorted.
use Rattle.std.proofs.Common.{◌≡◌, ◌≢◌, ◌⊎◌, ℕ, zero, suc, ◌+◌, ◌-◌, ◌<◌, Bool, true, false, List, [], ◌∷◌, ◌++◌, inl, inr, refl, arith, ap, sym, ◌∙◌, length, get_or, eqb}
use Rattle.std.specs.Prelude.{sum_by, All, AllPairs}
use Rattle.std.specs.List.{AllByRecursion, IsDistinct}
use Rattle.std.specs.List.Sorted.{IsPermutation}
use Rattle.std.specs.Ordering.{is_lt, nat_cmp, ordering_then}
use Rattle.std.proofs.lemmas.Bool.{cases_lt, cases_eq, le-ltb, lt-ltb}
use Rattle.std.proofs.lemmas.Bool.Decides.{Decides-eqb}
use Rattle.std.proofs.lemmas.List.{get_or-map, length-map}
use Rattle.std.proofs.lemmas.List.Sums.{sum_by-cons, sum_by-append}
use Rattle.std.proofs.lemmas.List.Sorted.{IsPermutation-map, All-permutation, Contains-permutation, sum_by-IsPermutation}
use Rattle.std.proofs.lemmas.Map.Keys.{IsDistinct-IsPermutation}
use Rattle.std.proofs.lemmas.Map.Made.{AllPairs-from_IsDistinct}
use Rattle.pyr_graph.specs.System.{System, cost_of}
use Rattle.pyr_graph.proofs.ListLemmas.{nat_eq-same, nat_eq-apart}
use Rattle.pyr_merge.specs.declared.weighed.Weighed.{Weighed}
use Rattle.pyr_merge.specs.Merge.{tasks_of, load_of, ComesBefore, IsByFallingLoad}
use Rattle.pyr_merge.specs.Weighed.{weighed, weighed_from, numbers_of}
use Rattle.pyr_merge.proofs.PartLemmas.{flat}

pub weighed-push : (s : System) (k : ℕ) (clusters : List (List ℕ)) (tasks : List ℕ)
    → weighed_from s k (clusters ++ tasks ∷ []) ≡ weighed_from s k clusters ++ weighed s (k + length clusters) tasks ∷ []
weighed-push s k [] tasks = ap (λ (n : ℕ). weighed s n tasks ∷ []) (omega arith)
weighed-push s k (c ∷ clusters) tasks =
    ap (λ (rest : List Weighed). weighed s k c ∷ rest)
    (weighed-push s (k + 1) clusters tasks
    ∙ ap (λ (n : ℕ). weighed_from s (k + 1) clusters ++ weighed s n tasks ∷ []) (omega arith))

length-weighed : (s : System) (k : ℕ) (clusters : List (List ℕ)) → length (weighed_from s k clusters) ≡ length clusters
length-weighed s k [] = refl
length-weighed s k (c ∷ clusters) = ap suc (length-weighed s (k + 1) clusters)

weighed-at : (s : System) (k : ℕ) (clusters : List (List ℕ)) (i : ℕ) (d : Weighed) → i < length clusters
    → get_or (weighed_from s k clusters) i d ≡ weighed s (k + i) (tasks_of clusters i)
weighed-at s k [] i d inside = absurd (omega arith)
weighed-at s k (c ∷ clusters) zero d inside = ap (λ (n : ℕ). weighed s n c) (omega arith)
weighed-at s k (c ∷ clusters) (suc i) d inside =
    weighed-at s (k + 1) clusters i d (omega arith) ∙ ap (λ (n : ℕ). weighed s n (tasks_of clusters i)) (omega arith)

sum-weighed : (s : System) (k : ℕ) (clusters : List (List ℕ)) → sum_by (λ w. w.load.0) (weighed_from s k clusters) ≡ sum_by (cost_of s) (flat clusters)
sum-weighed s k [] = refl
sum-weighed s k (c ∷ clusters) =
    sum_by-cons (λ (w : Weighed). w.load.0) (weighed s k c) (weighed_from s (k + 1) clusters)
    ∙ (rw (sum-weighed s (k + 1) clusters) (sym (sum_by-append (cost_of s) c (flat clusters))))

-- the numbers rise, so no two are equal
above : (s : System) (k j : ℕ) (clusters : List (List ℕ)) → k < j → AllByRecursion (λ y. eqb k y ≡ false) (numbers_of (weighed_from s j clusters))
above s k j [] less = tt
above s k j (c ∷ clusters) less = (nat_eq-apart k j (λ same. omega arith), above s k (j + 1) clusters (omega arith))

distinct : (s : System) (k : ℕ) (clusters : List (List ℕ)) → IsDistinct eqb (numbers_of (weighed_from s k clusters))
unfolding IsDistinct
distinct s k [] = tt
distinct s k (c ∷ clusters) = (above s k (k + 1) clusters (omega arith), distinct s (k + 1) clusters)

flips : (x y : ℕ) → eqb x y ≡ eqb y x
flips x y = elim (cases_eq x y) [
  | inl same ↦ nat_eq-same x y same ∙ sym (nat_eq-same y x (sym same))
  | inr other ↦ nat_eq-apart x y other ∙ sym (nat_eq-apart y x (λ same. other (sym same)))
]

-- how two clusters with their loads are compared
abbrev pub compared : Weighed → Weighed → Bool
compared a b = is_lt (ordering_then (nat_cmp b.load.0 a.load.0) (nat_cmp a.cluster b.cluster))

before : (a b : Weighed) → compared b a ≡ false → a.cluster ≢ b.cluster
    → (b.load.0 < a.load.0) ⊎ ((a.load.0 ≡ b.load.0) × (a.cluster < b.cluster))
before a b not_less apart = elim (cases_lt b.load.0 a.load.0) [
  | inl less ↦ inl less
  | inr past ↦ elim (cases_eq a.load.0 b.load.0) [
    | inl same ↦ elim (cases_lt a.cluster b.cluster) [
      | inl rises ↦ inr (same, rises)
      | inr falls ↦
          let below : b.cluster < a.cluster = omega arith in
          let e : true ≡ false = rw (same, le-ltb b.load.0 b.load.0 (omega arith), nat_eq-same b.load.0 b.load.0 refl, lt-ltb b.cluster a.cluster below) at not_less in
          absurd (cc)
    ]
    | inr other ↦
        let below : a.load.0 < b.load.0 = omega arith in
        let e : true ≡ false = rw (lt-ltb a.load.0 b.load.0 below) at not_less in
        absurd (cc)
  ]
]

-- a relation that holds of neighbours, and passes on, holds of each element and each later one
module _ {X : Type 0} (R : X → X → Type 0) (through : (a b c : X) → R a b → R b c → R a c) where
  far : (xs : List X) (d : X) → ((k : ℕ) → k + 1 < length xs → R (get_or xs k d) (get_or xs (k + 1) d))
      → (n i : ℕ) → i + n + 1 < length xs → R (get_or xs i d) (get_or xs (i + n + 1) d)
  far xs d near zero i inside =
      let same : i + 0 ≡ i = omega arith in
      rw same (near i (omega arith))
  far xs d near (suc n) i inside =
      through (get_or xs i d) (get_or xs (i + n + 1) d) (get_or xs (i + suc n + 1) d)
      (far xs d near n i (omega arith))
      (let last = near (i + n + 1) (omega arith) in
      let same : i + n + 1 + 1 ≡ i + suc n + 1 = omega arith in
      rw same at last)

  pub AllPairs-from_neighbours : (xs : List X) → ((k : ℕ) (d : X) → k + 1 < length xs → R (get_or xs k d) (get_or xs (k + 1) d)) → AllPairs R xs
  AllPairs-from_neighbours xs near i j d less inside =
      let n : ℕ = j - (i + 1) in
      let same : i + n + 1 ≡ j = omega arith in
      rw same at (far xs d (λ k. near k d) n i (omega arith))

module _ (s : System) (clusters : List (List ℕ)) (order : List Weighed) (same : IsPermutation (weighed_from s 0 clusters) order) where
  known : All (λ w. (w.load.0 ≡ load_of s clusters w.cluster) × (w.cluster < length clusters)) (weighed_from s 0 clusters)
  known k d inside =
      let less : k < length clusters = omega (arith, length-weighed s 0 clusters) in
      rw (weighed-at s 0 clusters k d less) (ap (λ (i : ℕ). sum_by (cost_of s) (tasks_of clusters i)) (omega arith), omega arith)

  kept : All (λ w. (w.load.0 ≡ load_of s clusters w.cluster) × (w.cluster < length clusters)) order
  kept = All-permutation (λ (w : Weighed). (w.load.0 ≡ load_of s clusters w.cluster) × (w.cluster < length clusters)) (weighed_from s 0 clusters) order same known

  pub loads-kept : All (λ w. w.load.0 ≡ load_of s clusters w.cluster) order
  loads-kept k d inside = (kept k d inside).0

  pub numbers-kept : All (λ w. w.cluster < length clusters) order
  numbers-kept k d inside = (kept k d inside).1

  pub sum-kept : sum_by (λ w. w.load.0) order ≡ sum_by (cost_of s) (flat clusters)
  sum-kept = sum_by-IsPermutation (λ (w : Weighed). w.load.0) (weighed_from s 0 clusters) order same ∙ sum-weighed s 0 clusters

  apart : AllPairs (λ a b. a ≢ b) (numbers_of order)
  apart = AllPairs-from_IsDistinct Decides-eqb (numbers_of order)
      (IsDistinct-IsPermutation eqb flips (numbers_of (weighed_from s 0 clusters)) (numbers_of order)
      (IsPermutation-map (λ (w : Weighed). w.cluster) (weighed_from s 0 clusters) order same) (distinct s 0 clusters))

  -- what the sort gives
  module _ (sorted : (k : ℕ) (d : Weighed) → k + 1 < length order → compared (get_or order (k + 1) d) (get_or order k d) ≡ false) where
    near : (k : ℕ) (d : ℕ) → k + 1 < length (numbers_of order) → ComesBefore s clusters (get_or (numbers_of order) k d) (get_or (numbers_of order) (k + 1) d)
    near k d inside =
        let same_length = length-map order (λ (w : Weighed). w.cluster) in
        let less : k + 1 < length order = omega arith in
        let e : Weighed = record { load = record { 0 = 0 }; cluster = d } in
        let a : Weighed = get_or order k e in
        let b : Weighed = get_or order (k + 1) e in
        let here = get_or-map (λ (w : Weighed). w.cluster) order k e d (omega arith) in
        let there = get_or-map (λ (w : Weighed). w.cluster) order (k + 1) e d less in
        let differ : a.cluster ≢ b.cluster = rw (here, there) at (apart k (k + 1) d (omega arith) inside) in
        let load_a = loads-kept k e (omega arith) in
        let load_b = loads-kept (k + 1) e less in
        rw (here, there) (moved a b load_a load_b (before a b (sorted k e less) differ))
      where
        moved : (a b : Weighed) → a.load.0 ≡ load_of s clusters a.cluster → b.load.0 ≡ load_of s clusters b.cluster
            → (b.load.0 < a.load.0) ⊎ ((a.load.0 ≡ b.load.0) × (a.cluster < b.cluster)) → ComesBefore s clusters a.cluster b.cluster
        moved a b load_a load_b (inl less) = inl (omega (arith, load_a, load_b))
        moved a b load_a load_b (inr (same, rises)) = inr (omega (arith, load_a, load_b), rises)

    passes : (a b c : ℕ) → ComesBefore s clusters a b → ComesBefore s clusters b c → ComesBefore s clusters a c
    passes a b c (inl one) (inl other) = inl (omega arith)
    passes a b c (inl one) (inr (same, other)) = inl (omega arith)
    passes a b c (inr (same, one)) (inl other) = inl (omega arith)
    passes a b c (inr (same, one)) (inr (same', other)) = inr (omega arith, omega arith)

    pub IsByFallingLoad-sorted : IsByFallingLoad s clusters (numbers_of order)
    IsByFallingLoad-sorted = record {
      numbers = λ k d inside.
          let less : k < length order = omega (arith, length-map order (λ (w : Weighed). w.cluster)) in
          let e : Weighed = record { load = record { 0 = 0 }; cluster = d } in
          rw (get_or-map (λ (w : Weighed). w.cluster) order k e d less) (numbers-kept k e less);
      each = λ k inside.
          Contains-permutation (numbers_of (weighed_from s 0 clusters)) (numbers_of order) k
          (IsPermutation-map (λ (w : Weighed). w.cluster) (weighed_from s 0 clusters) order same) (
            k,
            simp length-map (omega (arith, length-weighed s 0 clusters)),
            (let e : Weighed = record { load = record { 0 = 0 }; cluster = k } in
                get_or-map (λ (w : Weighed). w.cluster) (weighed_from s 0 clusters) k e k (omega (arith, length-weighed s 0 clusters))
                ∙ rw (weighed-at s 0 clusters k e inside) (omega arith)),
          );
      falling = AllPairs-from_neighbours (ComesBefore s clusters) passes (numbers_of order) near;
    }
