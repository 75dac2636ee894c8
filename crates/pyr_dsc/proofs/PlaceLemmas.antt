-- The best cluster for a free task, by a scan over its predecessors.
use Rattle.std.proofs.Common.{◌≡◌, ℕ, ◌<◌, ◌≤◌, Bool, true, false, Option, Some, None, List, [], ◌∷◌, ◌++◌, inl, inr, refl, arith, ap, sym, ◌∙◌, eqb-true}
use Rattle.std.specs.Prelude.{◌||◌, not, nat_eq, nat_lt, length}
use Rattle.std.specs.List.{list_any, best_of}
use Rattle.std.proofs.lemmas.Bool.{cases_Bool, cases_eq, cases_lt, lt-ltb, le-ltb, false_from_ne_true}
use Rattle.pyr_graph.proofs.ListLemmas.{nat_eq-same, nat_eq-apart}
use Rattle.pyr_graph.proofs.NumberLemmas.{Rises, kept-rises, kept-number, number-kept, some-passes, passes-some}
use Rattle.pyr_graph.specs.Numbers.{holds}
use Rattle.pyr_levels.specs.Scheduled.{cluster_at}
use Rattle.pyr_levels.specs.Partial.{is_in}
use Rattle.pyr_levels.proofs.ClusterLemmas.{and-true, both-true}
use Rattle.pyr_dsc.specs.declared.head.Head.{Head}
use Rattle.pyr_dsc.specs.Choice.{first_least}
use Rattle.pyr_dsc.specs.State.{State, predecessors}
use Rattle.pyr_dsc.specs.Rules.{is_candidate, is_reserved, candidates, best_candidate, start_of}
use Rattle.pyr_dsc.specs.Heads.{head_of, head_with, lesser_of}
use Rattle.pyr_dsc.specs.Places.{unless_reserved, MayTake, IsEarliest, IsBestOf}
use Rattle.pyr_dsc.proofs.HeadLemmas.{first_least-held}
use Rattle.pyr_dsc.proofs.HeldLemmas.{or-cases, not-true, not-both, holds-push}

-- ---- In a rising list, the first with the least key is the smallest of those that have it.
best-least : (key : ℕ → ℕ) (y : ℕ) (ys : List ℕ) (x : ℕ) → holds (y ∷ ys) x ≡ true → key (best_of (λ a b. nat_lt (key a) (key b)) y ys) ≤ key x
best-least key y [] x held = elim (cases_Bool (nat_eq x y)) [
  | inl is ↦ (let same : x ≡ y = eqb-true x y is in rw same (omega arith))
  | inr other ↦ absurd (let e : false ≡ true = rw other at held in cc)
]
best-least key y (w ∷ ys) x held = elim (cases_lt (key w) (key y)) [
  | inl under ↦ rw (lt-ltb (key w) (key y) under) (elim (cases_Bool (nat_eq x y)) [
    | inl is ↦
        let same : x ≡ y = eqb-true x y is in
        let less = best-least key w ys w (rw (nat_eq-same w w refl)) in
        rw same (omega (arith, under, less))
    | inr other ↦ best-least key w ys x (rw other at held)
  ])
  | inr over ↦ rw (le-ltb (key w) (key y) over) (elim (cases_Bool (nat_eq x w)) [
    | inl is ↦
        let same : x ≡ w = eqb-true x w is in
        let less = best-least key y ys y (rw (nat_eq-same y y refl)) in
        rw same (omega (arith, over, less))
    | inr other ↦ best-least key y ys x (rw other at held)
  ])
]

best-smallest : (key : ℕ → ℕ) (y : ℕ) (ys : List ℕ) → Rises (y ∷ ys) → (v : ℕ) → holds (y ∷ ys) v ≡ true
    → key v ≡ key (best_of (λ a b. nat_lt (key a) (key b)) y ys) → best_of (λ a b. nat_lt (key a) (key b)) y ys ≤ v
best-smallest key y [] up v held = elim (cases_Bool (nat_eq v y)) [
  | inl is ↦ (λ same. let here : v ≡ y = eqb-true v y is in omega (arith, here))
  | inr other ↦ absurd (let e : false ≡ true = rw other at held in cc)
]
best-smallest key y (w ∷ ys) up v held = elim (cases_lt (key w) (key y)) [
  | inl under ↦ rw (lt-ltb (key w) (key y) under) (elim (cases_Bool (nat_eq v y)) [
    | inl is ↦ (λ same.
        let here : v ≡ y = eqb-true v y is in
        let same' : key y ≡ key (best_of (λ a b. nat_lt (key a) (key b)) w ys) = rw here at same in
        let less = best-least key w ys w (rw (nat_eq-same w w refl)) in
        absurd (omega (arith, under, less, same')))
    | inr other ↦ best-smallest key w ys up.1 v (rw other at held)
  ])
  | inr over ↦ rw (le-ltb (key w) (key y) over) (
      let first = best-smallest key y ys (up.0.1, up.1.1) in
      elim (cases_Bool (nat_eq v w)) [
        | inl is ↦ (λ same.
            let here : v ≡ w = eqb-true v w is in
            let same' : key w ≡ key (best_of (λ a b. nat_lt (key a) (key b)) y ys) = rw here at same in
            let less = best-least key y ys y (rw (nat_eq-same y y refl)) in
            let least = first y (rw (nat_eq-same y y refl)) (omega (arith, less, same', over)) in
            rw here (omega (arith, least, up.0.0)))
        | inr other ↦ first v (skip (nat_eq v y) (nat_eq v w) (holds ys v) other held)
      ])
]
  where
    skip : (p q r : Bool) → q ≡ false → (p || (q || r)) ≡ true → (p || r) ≡ true
    skip true q r none is = refl
    skip false q r none is = rw none at is

first_least-is : (key : ℕ → ℕ) (xs : List ℕ) (u : ℕ) → Rises xs → holds xs u ≡ true
    → ((v : ℕ) → holds xs v ≡ true → (key u ≤ key v) × (key v ≡ key u → u ≤ v)) → first_least key xs ≡ Some u
first_least-is key [] u up held known = absurd (let e : false ≡ true = held in cc)
first_least-is key (y ∷ ys) u up held known =
    let best = best_of (λ a b. nat_lt (key a) (key b)) y ys in
    let less : key best ≤ key u = best-least key y ys u held in
    let there = known best (first_least-held key (y ∷ ys) best refl) in
    let same : key u ≡ key best = omega (arith, less, there.0) in
    let least : best ≤ u = best-smallest key y ys up u held same in
    let back = there.1 (sym same) in
    let is : best ≡ u = omega (arith, least, back) in
    ap Some is

-- ---- The clusters that may take x.
module _ (z : State) (x : ℕ) where
  -- each candidate may take x from a predecessor, and conversely
  candidate-from : (k : ℕ) → is_candidate z x k ≡ true → k < length z.clusters → (u : ℕ) × (holds (predecessors z x) u ≡ true) × MayTake z x k u
  candidate-from k is stands =
      let (some, free) = and-true (list_any (λ u. holds (cluster_at z.clusters k) u) (predecessors z x)) (not (is_reserved z x k)) is in
      let (u, before, held) = some-passes (λ u. holds (cluster_at z.clusters k) u) (predecessors z x) some in
      (u, before, record { stands = stands; held = held; open_to = not-true (is_reserved z x k) free })

  from-candidate : (k u : ℕ) → holds (predecessors z x) u ≡ true → MayTake z x k u → is_candidate z x k ≡ true
  from-candidate k u before may =
      both-true (list_any (λ v. holds (cluster_at z.clusters k) v) (predecessors z x)) (not (is_reserved z x k))
      (passes-some (λ v. holds (cluster_at z.clusters k) v) (predecessors z x) u before may.held) (rw may.open_to)

  pub IsBestOf-start : IsBestOf z x [] None
  IsBestOf-start k u held may = let e : false ≡ true = held in cc

  -- one predecessor more, from which no cluster may take x
  pub IsBestOf-skips : (us : List ℕ) (u : ℕ) (best : Option Head) → ((k : ℕ) → MayTake z x k u → ⊥) → IsBestOf z x us best → IsBestOf z x (us ++ u ∷ []) best
  IsBestOf-skips us u None none is = λ k v held may. elim (or-cases (holds us v) (nat_eq v u) (sym (holds-push us u v) ∙ held)) [
    | inl old ↦ is k v old may
    | inr here ↦ (let same : v ≡ u = eqb-true v u here in none k (rw same at may))
  ]
  IsBestOf-skips us u (Some best) none is = record {
    key = is.key;
    stands = is.stands;
    candidate = is.candidate;
    least = λ k v held may. elim (or-cases (holds us v) (nat_eq v u) (sym (holds-push us u v) ∙ held)) [
      | inl old ↦ is.least k v old may
      | inr here ↦ (let same : v ≡ u = eqb-true v u here in absurd (none k (rw same at may)))
    ];
    smallest = λ k v held may. elim (or-cases (holds us v) (nat_eq v u) (sym (holds-push us u v) ∙ held)) [
      | inl old ↦ is.smallest k v old may
      | inr here ↦ (let same : v ≡ u = eqb-true v u here in absurd (none k (rw same at may)))
    ];
  }

  -- one predecessor more, whose cluster may take x
  module _ (us : List ℕ) (u k : ℕ) (before : holds (predecessors z x) u ≡ true) (may : MayTake z x k u) (one : (j : ℕ) → MayTake z x j u → j ≡ k) where
    -- the new one, where no other is better
    IsEarliest-new : ((j v : ℕ) → holds us v ≡ true → MayTake z x j v → start_of z x k ≤ start_of z x j)
        → ((j v : ℕ) → holds us v ≡ true → MayTake z x j v → start_of z x j ≡ start_of z x k → k ≤ j) → IsEarliest z x (us ++ u ∷ []) (head_of (start_of z x) k)
    IsEarliest-new least smallest = record {
      key = refl;
      stands = may.stands;
      candidate = from-candidate k u before may;
      least = λ j v held takes. elim (or-cases (holds us v) (nat_eq v u) (sym (holds-push us u v) ∙ held)) [
        | inl old ↦ least j v old takes
        | inr here ↦ (let same : v ≡ u = eqb-true v u here in let is : j ≡ k = one j (rw same at takes) in rw is (omega arith))
      ];
      smallest = λ j v held takes. elim (or-cases (holds us v) (nat_eq v u) (sym (holds-push us u v) ∙ held)) [
        | inl old ↦ smallest j v old takes
        | inr here ↦ (λ tie. let same : v ≡ u = eqb-true v u here in let is : j ≡ k = one j (rw same at takes) in omega (arith, is))
      ];
    }

    -- the best before, where it is no worse than the new one
    IsEarliest-old : (best : Head) → IsEarliest z x us best → best.key ≤ start_of z x k → (start_of z x k ≡ best.key → best.number ≤ k) → IsEarliest z x (us ++ u ∷ []) best
    IsEarliest-old best is low small = record {
      key = is.key;
      stands = is.stands;
      candidate = is.candidate;
      least = λ j v held takes. elim (or-cases (holds us v) (nat_eq v u) (sym (holds-push us u v) ∙ held)) [
        | inl old ↦ is.least j v old takes
        | inr here ↦ (let same : v ≡ u = eqb-true v u here in let is' : j ≡ k = one j (rw same at takes) in rw is' (omega (arith, low, is.key)))
      ];
      smallest = λ j v held takes. elim (or-cases (holds us v) (nat_eq v u) (sym (holds-push us u v) ∙ held)) [
        | inl old ↦ is.smallest j v old takes
        | inr here ↦ (λ tie.
            let same : v ≡ u = eqb-true v u here in
            let is' : j ≡ k = one j (rw same at takes) in
            let tie' : start_of z x k ≡ start_of z x best.number = rw is' at tie in
            let least = small (tie' ∙ sym is.key) in
            omega (arith, least, is'))
      ];
    }

    pub IsBestOf-takes : (best : Option Head) → IsBestOf z x us best → IsBestOf z x (us ++ u ∷ []) (lesser_of best (head_of (start_of z x) k))
    IsBestOf-takes None is = IsEarliest-new (λ j v held takes. absurd (is j v held takes)) (λ j v held takes tie. absurd (is j v held takes))
    IsBestOf-takes (Some best) is = elim (cases_lt (start_of z x k) best.key) [
      | inl less ↦ rw (lt-ltb (start_of z x k) best.key less)
          (IsEarliest-new (λ j v held takes. let most = is.least j v held takes in omega (arith, most, less, is.key))
          (λ j v held takes tie. let most = is.least j v held takes in absurd (omega (arith, most, less, is.key, tie))))
      | inr more ↦ elim (cases_eq (start_of z x k) best.key) [
        | inl tie ↦ elim (cases_lt k best.number) [
          | inl smaller ↦ rw (le-ltb (start_of z x k) best.key more, nat_eq-same (start_of z x k) best.key tie, lt-ltb k best.number smaller)
              (IsEarliest-new (λ j v held takes. let most = is.least j v held takes in omega (arith, most, tie, is.key))
              (λ j v held takes same. let least = is.smallest j v held takes (same ∙ (tie ∙ is.key)) in omega (arith, least, smaller)))
          | inr larger ↦ rw (le-ltb (start_of z x k) best.key more, nat_eq-same (start_of z x k) best.key tie, le-ltb k best.number larger)
              (IsEarliest-old best is more (λ same. larger))
        ]
        | inr apart ↦ rw (le-ltb (start_of z x k) best.key more, nat_eq-apart (start_of z x k) best.key apart)
            (IsEarliest-old best is more (λ same. absurd (apart same)))
      ]
    ]

  -- after all predecessors, it is the best candidate
  pub IsBestOf-all : (best : Option Head) → IsBestOf z x (predecessors z x) best → best ≡ head_with (start_of z x) (best_candidate z x)
  IsBestOf-all None is = none-of (best_candidate z x) refl
    where
      none-of : (o : Option ℕ) → best_candidate z x ≡ o → None ≡ head_with (start_of z x) o
      none-of None found = refl
      none-of (Some k) found =
          let (inside, passes) = kept-number (is_candidate z x) (length z.clusters) k (first_least-held (start_of z x) (candidates z x) k found) in
          let (u, before, may) = candidate-from k passes inside in
          absurd (is k u before may)
  IsBestOf-all (Some best) is =
      let found = first_least-is (start_of z x) (candidates z x) best.number (kept-rises (is_candidate z x) (length z.clusters))
      (number-kept (is_candidate z x) (length z.clusters) best.number is.stands is.candidate) (λ k held.
      let (inside, passes) = kept-number (is_candidate z x) (length z.clusters) k held in
      let (u, before, may) = candidate-from k passes inside in
      (is.least k u before may, is.smallest k u before may)) in
      rw found (whole is.key)
    where
      whole : best.key ≡ start_of z x best.number → Some best ≡ Some (head_of (start_of z x) best.number)
      whole same = ap {B = Option Head} (λ (n : ℕ). Some (record { number = best.number; key = n })) same

-- ---- The cluster of a predecessor, unless it is reserved.
module _ (z : State) (x u : ℕ) (own reserved : Option ℕ)
    (lies : (k : ℕ) → k < length z.clusters → holds (cluster_at z.clusters k) u ≡ is_in own k)
    (kept : (k : ℕ) → k < length z.clusters → is_in reserved k ≡ is_reserved z x k)
  where
    pub none-takes : unless_reserved own reserved ≡ None → (k : ℕ) → MayTake z x k u → ⊥
    none-takes is k may = by own reserved is (sym (lies k may.stands) ∙ may.held) (kept k may.stands ∙ may.open_to)
      where
        by : (own reserved : Option ℕ) → unless_reserved own reserved ≡ None → is_in own k ≡ true → is_in reserved k ≡ false → ⊥
        by None reserved is held free = let e : false ≡ true = held in cc
        by (Some j) None is held free = cc
        by (Some j) (Some r) is held free = elim (cases_Bool (nat_eq j r)) [
          | inl same ↦
              let here : j ≡ k = eqb-true j k held in
              let there : j ≡ r = eqb-true j r same in
              not-both (nat_eq r k) free (nat_eq-same r k (sym there ∙ here))
          | inr apart ↦ (let e : Some j ≡ None = rw apart at is in cc)
        ]

    pub one-takes : (j : ℕ) → unless_reserved own reserved ≡ Some j → j < length z.clusters → MayTake z x j u × ((k : ℕ) → MayTake z x k u → k ≡ j)
    one-takes j is inside = by own reserved is lies kept
      where
        by : (own reserved : Option ℕ) → unless_reserved own reserved ≡ Some j → ((k : ℕ) → k < length z.clusters → holds (cluster_at z.clusters k) u ≡ is_in own k)
            → ((k : ℕ) → k < length z.clusters → is_in reserved k ≡ is_reserved z x k) → MayTake z x j u × ((k : ℕ) → MayTake z x k u → k ≡ j)
        by None reserved is lies kept = absurd (cc)
        by (Some i) None is lies kept =
            let same : i ≡ j = cc in (
              record { stands = inside; held = lies j inside ∙ nat_eq-same i j same; open_to = sym (kept j inside) },
              λ k may. sym (eqb-true i k (sym (lies k may.stands) ∙ may.held)) ∙ same,
            )
        by (Some i) (Some r) is lies kept = elim (cases_Bool (nat_eq i r)) [
          | inl same ↦ absurd (let e : None ≡ Some j = rw same at is in cc)
          | inr apart ↦
              let is' : Some i ≡ Some j = rw apart at is in
              let same : i ≡ j = cc in
              let free : nat_eq r j ≡ false = false_from_ne_true (nat_eq r j) (λ here.
              not-both (nat_eq i r) apart (nat_eq-same i r (same ∙ sym (eqb-true r j here)))) in (
                record { stands = inside; held = lies j inside ∙ nat_eq-same i j same; open_to = sym (kept j inside) ∙ free },
                λ k may. sym (eqb-true i k (sym (lies k may.stands) ∙ may.held)) ∙ same,
              )
        ]

-- a cluster that isn't reserved is the own one
pub unless-own : (own reserved : Option ℕ) (j : ℕ) → unless_reserved own reserved ≡ Some j → own ≡ Some j
unless-own None reserved j is = absurd (cc)
unless-own (Some i) None j is = is
unless-own (Some i) (Some r) j is = elim (cases_Bool (nat_eq i r)) [
  | inl same ↦ absurd (let e : None ≡ Some j = rw same at is in cc)
  | inr apart ↦ rw apart at is
]
