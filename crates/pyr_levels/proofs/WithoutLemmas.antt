-- Clusters and logs without one task.
use Rattle.std.proofs.Common.{◌≡◌, ◌≢◌, ℕ, zero, suc, ◌+◌, ◌<◌, ◌≤◌, true, false, Option, Some, None, List, [], ◌∷◌, length, get_or, set, map, inl, inr, refl, arith, ap, sym, ◌∙◌, eqb-true}
use Rattle.std.specs.Prelude.{nat_eq, Contains}
use Rattle.std.specs.List.{AllByRecursion}
use Rattle.std.proofs.lemmas.Bool.{cases_Bool, cases_eq, cases_lt, or_cases, false_from_ne_true}
use Rattle.std.proofs.lemmas.List.{get_or_past}
use Rattle.pyr_graph.proofs.ListLemmas.{nat_eq-same, nat_eq-apart, Contains-tested, tested-Contains}
use Rattle.pyr_levels.specs.declared.placed.Placed.{Placed}
use Rattle.pyr_levels.specs.Scheduled.{cluster_at, appended, without}
use Rattle.pyr_levels.specs.Partial.{cluster_tasks, clusters_from, examined, cluster_in}
use Rattle.pyr_graph.specs.Clusters.{filled}
use Rattle.pyr_graph.specs.Numbers.{holds}
use Rattle.pyr_levels.specs.Passes.{entries, without_placed}
use Rattle.pyr_levels.proofs.ScheduledLemmas.{or-true}
use Rattle.pyr_levels.proofs.ClusterLemmas.{Apart, cluster_in-from_holds}

-- what is left of a list without t holds what it held but t
pub without-holds : (t u : ℕ) (xs : List ℕ) → holds (without t xs) u ≡ true → (holds xs u ≡ true) × (u ≢ t)
without-holds t u [] is = absurd (let e : false ≡ true = is in cc)
without-holds t u (x ∷ xs) is = elim (cases_Bool (nat_eq x t)) [
  | inl here ↦
      let later = without-holds t u xs (rw here at is) in
      (rw later.0 (or-true (nat_eq u x)), later.1)
  | inr other ↦ elim (or_cases (nat_eq u x) (holds (without t xs) u) (rw other at is)) [
    | inl same ↦ (
      rw same refl,
      λ twice.
          let equal : u ≡ x = eqb-true u x same in
          let found : nat_eq x t ≡ true = nat_eq-same x t (sym equal ∙ twice) in
          absurd (cc (found, other)),
    )
    | inr later' ↦ (let later = without-holds t u xs later' in (rw later.0 (or-true (nat_eq u x)), later.1))
  ]
]

pub holds-without : (t u : ℕ) (xs : List ℕ) → holds xs u ≡ true → u ≢ t → holds (without t xs) u ≡ true
holds-without t u [] is apart = is
holds-without t u (x ∷ xs) is apart = elim (or_cases (nat_eq u x) (holds xs u) is) [
  | inl same ↦
      let equal : u ≡ x = eqb-true u x same in
      let kept : nat_eq x t ≡ false = nat_eq-apart x t (λ twice. apart (equal ∙ twice)) in
      rw (kept, same)
  | inr later ↦
      let found = holds-without t u xs later apart in
      elim (cases_Bool (nat_eq x t)) [
        | inl here ↦ rw here found
        | inr other ↦ rw (other, found) (or-true (nat_eq u x))
      ]
]

-- a list that doesn't hold t stays
pub without-none : (t : ℕ) (xs : List ℕ) → holds xs t ≡ false → without t xs ≡ xs
without-none t [] none = refl
without-none t (x ∷ xs) none = elim (cases_Bool (nat_eq t x)) [
  | inl here ↦ absurd (let found : true ≡ false = rw here at none in cc)
  | inr other ↦
      let kept : nat_eq x t ≡ false = nat_eq-apart x t (λ same. let found = nat_eq-same t x (sym same) in absurd (cc (found, other))) in
      rw (kept, without-none t xs (rw other at none))
]

-- one that holds t once is shorter by one
pub length-without : (t : ℕ) (xs : List ℕ) → Apart xs → holds xs t ≡ true → length (without t xs) + 1 ≡ length xs
length-without t [] all is = absurd (let e : false ≡ true = is in cc)
length-without t (x ∷ xs) all is = elim (cases_Bool (nat_eq t x)) [
  | inl here ↦
      let same : t ≡ x = eqb-true t x here in
      let none : holds xs t ≡ false = rw same all.0 in
      rw (nat_eq-same x t (sym same), without-none t xs none) (omega arith)
  | inr other ↦
      let kept : nat_eq x t ≡ false = nat_eq-apart x t (λ same. let found = nat_eq-same t x (sym same) in absurd (cc (found, other))) in
      rw kept (omega (arith, length-without t xs all.1 (rw other at is)))
]

pub examined-without : (t : ℕ) (placed : List Placed) → examined (without_placed t placed) ≡ without t (examined placed)
examined-without t [] = refl
examined-without t (p ∷ placed) = elim (cases_Bool (nat_eq p.task.0 t)) [
  | inl here ↦ rw here (examined-without t placed)
  | inr other ↦ rw (other, examined-without t placed)
]

pub cluster_tasks-without : (t : ℕ) (placed : List Placed) (k : ℕ) → cluster_tasks (without_placed t placed) k ≡ without t (cluster_tasks placed k)
cluster_tasks-without t [] k = refl
cluster_tasks-without t (p ∷ placed) k = elim (cases_Bool (nat_eq p.task.0 t)) [
  | inl here ↦ elim (cases_Bool (nat_eq p.cluster k)) [
    | inl own ↦ rw (here, own, here) (cluster_tasks-without t placed k)
    | inr apart ↦ rw (here, apart) (cluster_tasks-without t placed k)
  ]
  | inr other ↦ elim (cases_Bool (nat_eq p.cluster k)) [
    | inl own ↦ rw (other, own, other, cluster_tasks-without t placed k)
    | inr apart ↦ rw (other, apart) (cluster_tasks-without t placed k)
  ]
]

pub clusters_from-without : (t : ℕ) (placed : List Placed) (k n : ℕ) → clusters_from (without_placed t placed) k n ≡ map (without t) (clusters_from placed k n)
clusters_from-without t placed k zero = refl
clusters_from-without t placed k (suc n) = rw (cluster_tasks-without t placed k, clusters_from-without t placed (suc k) n)

-- the others keep their clusters, and t has none
pub cluster_in-without : (t u : ℕ) (placed : List Placed) → u ≢ t → cluster_in (without_placed t placed) u ≡ cluster_in placed u
cluster_in-without t u [] apart = refl
cluster_in-without t u (p ∷ placed) apart = elim (cases_Bool (nat_eq p.task.0 t)) [
  | inl here ↦
      let other : nat_eq u p.task.0 ≡ false = nat_eq-apart u p.task.0 (λ same. apart (same ∙ eqb-true p.task.0 t here)) in
      rw (here, other) (cluster_in-without t u placed apart)
  | inr kept ↦ elim (cases_Bool (nat_eq u p.task.0)) [
    | inl it ↦ rw (kept, it)
    | inr another ↦ rw (kept, another) (cluster_in-without t u placed apart)
  ]
]

pub cluster_in-gone : (t : ℕ) (placed : List Placed) → cluster_in (without_placed t placed) t ≡ None
cluster_in-gone t [] = refl
cluster_in-gone t (p ∷ placed) = elim (cases_Bool (nat_eq p.task.0 t)) [
  | inl here ↦ rw here (cluster_in-gone t placed)
  | inr kept ↦
      let other : nat_eq t p.task.0 ≡ false = nat_eq-apart t p.task.0 (λ same. let found = nat_eq-same p.task.0 t (sym same) in absurd (cc (found, kept))) in
      rw (kept, other) (cluster_in-gone t placed)
]

pub below-without : (t n : ℕ) (placed : List Placed) → AllByRecursion (λ q. q.cluster < n) placed → AllByRecursion (λ q. q.cluster < n) (without_placed t placed)
below-without t n [] all = tt
below-without t n (p ∷ placed) all = elim (cases_Bool (nat_eq p.task.0 t)) [
  | inl here ↦ rw here (below-without t n placed all.1)
  | inr other ↦ rw other (all.0, below-without t n placed all.1)
]

-- what is examined without t, and what was
pub held-without : (t u : ℕ) (placed : List Placed) → Contains (examined placed) u → u ≢ t → Contains (examined (without_placed t placed)) u
held-without t u placed held apart =
    rw (examined-without t placed) (Contains-tested u (without t (examined placed)) (holds-without t u (examined placed) (tested-Contains u (examined placed) held) apart))

pub without-held : (t u : ℕ) (placed : List Placed) → Contains (examined (without_placed t placed)) u → Contains (examined placed) u × (u ≢ t)
without-held t u placed held =
    let found = without-holds t u (examined placed) (tested-Contains u (without t (examined placed)) (rw (examined-without t placed) at held)) in
    (Contains-tested u (examined placed) found.0, found.1)

-- Where t is alone in a cluster: the other clusters stay.
module _ (t from : ℕ) (placed : List Placed) (once : Apart (examined placed)) (alone : cluster_tasks placed from ≡ t ∷ []) where
  pub own-cluster : cluster_in placed t ≡ Some from
  own-cluster = cluster_in-from_holds placed from t once (rw (alone, nat_eq-same t t refl))

  not-held : (j : ℕ) → from ≢ j → holds (cluster_tasks placed j) t ≡ false
  not-held j apart = false_from_ne_true (holds (cluster_tasks placed j) t) (λ is.
      let there = cluster_in-from_holds placed j t once is in
      apart (cc (there, own-cluster)))

  pub others-stay : (j : ℕ) → from ≢ j → cluster_tasks (without_placed t placed) j ≡ cluster_tasks placed j
  others-stay j apart = cluster_tasks-without t placed j ∙ without-none t (cluster_tasks placed j) (not-held j apart)

  pub own-empty : cluster_tasks (without_placed t placed) from ≡ []
  own-empty = cluster_tasks-without t placed from ∙ rw (alone, nat_eq-same t t refl)

  past-stay : (k n : ℕ) → from < k → clusters_from (without_placed t placed) k n ≡ clusters_from placed k n
  past-stay k zero past = refl
  past-stay k (suc n) past = rw (others-stay k (λ same. omega (arith, same)), past-stay (suc k) n (omega arith))

  filled-cons : (cluster : List ℕ) (xs ys : List (List ℕ)) → filled xs + 1 ≡ filled ys → filled (cluster ∷ xs) + 1 ≡ filled (cluster ∷ ys)
  filled-cons [] xs ys more = more
  filled-cons (x ∷ rest) xs ys more = omega (arith, more)

  -- one cluster less holds a task
  pub filled-without : (k n : ℕ) → k ≤ from → from < k + n → filled (clusters_from (without_placed t placed) k n) + 1 ≡ filled (clusters_from placed k n)
  filled-without k zero low high = absurd (omega arith)
  filled-without k (suc n) low high = elim (cases_eq from k) [
    | inl same ↦ rw (← same, own-empty, alone, past-stay (suc from) n (omega arith)) (omega arith)
    | inr apart ↦
        rw (others-stay k apart)
        (filled-cons (cluster_tasks placed k) (clusters_from (without_placed t placed) (suc k) n) (clusters_from placed (suc k) n)
        (filled-without (suc k) n (omega arith) (omega arith)))
  ]

-- a task more in a cluster that holds one
pub filled-appended_filled : (clusters : List (List ℕ)) (k t : ℕ) → cluster_at clusters k ≢ [] → filled (appended clusters k t) ≡ filled clusters
filled-appended_filled [] k t some = absurd (some refl)
filled-appended_filled ([] ∷ clusters) zero t some = absurd (some refl)
filled-appended_filled ((x ∷ rest) ∷ clusters) zero t some = refl
filled-appended_filled ([] ∷ clusters) (suc k) t some = filled-appended_filled clusters k t some
filled-appended_filled ((x ∷ rest) ∷ clusters) (suc k) t some = ap suc (filled-appended_filled clusters k t some)

-- an entry of the log is examined
pub entry-held : (log : List (Option Placed)) (i : ℕ) (p : Placed) → get_or log i None ≡ Some p → holds (examined (entries log)) p.task.0 ≡ true
entry-held [] i p here = absurd (cc)
entry-held (None ∷ log) zero p here = absurd (cc)
entry-held (None ∷ log) (suc i) p here = entry-held log i p here
entry-held (Some q ∷ log) zero p here = let same : q ≡ p = cc in rw (same, nat_eq-same p.task.0 p.task.0 refl)
entry-held (Some q ∷ log) (suc i) p here = rw (entry-held log i p here) (or-true (nat_eq p.task.0 q.task.0))

without_placed-none : (t : ℕ) (placed : List Placed) → holds (examined placed) t ≡ false → without_placed t placed ≡ placed
without_placed-none t [] none = refl
without_placed-none t (p ∷ placed) none = elim (cases_Bool (nat_eq t p.task.0)) [
  | inl here ↦ absurd (let found : true ≡ false = rw here at none in cc)
  | inr other ↦
      let kept : nat_eq p.task.0 t ≡ false = nat_eq-apart p.task.0 t (λ same. let found = nat_eq-same t p.task.0 (sym same) in absurd (cc (found, other))) in
      rw (kept, without_placed-none t placed (rw other at none))
]

-- a log in which an entry was taken out, where each task stands once
pub entries-hole : (log : List (Option Placed)) (i : ℕ) (p : Placed) → get_or log i None ≡ Some p → Apart (examined (entries log))
    → entries (set log i None) ≡ without_placed p.task.0 (entries log)
entries-hole [] i p here once = absurd (cc)
entries-hole (None ∷ log) zero p here once = absurd (cc)
entries-hole (None ∷ log) (suc i) p here once = entries-hole log i p here once
entries-hole (Some q ∷ log) zero p here once =
    let same : q ≡ p = cc in
    let none : holds (examined (entries log)) p.task.0 ≡ false = rw same at once.0 in
    rw (same, nat_eq-same p.task.0 p.task.0 refl, without_placed-none p.task.0 (entries log) none)
entries-hole (Some q ∷ log) (suc i) p here once =
    let found = entry-held log i p here in
    let kept : nat_eq q.task.0 p.task.0 ≡ false = nat_eq-apart q.task.0 p.task.0 (λ same. let twice : holds (examined (entries log)) q.task.0 ≡ true = rw same found in absurd (cc (twice, once.0))) in
    rw (kept, entries-hole log i p here once.1)

-- an entry stands within the log
pub entry-inside : (log : List (Option Placed)) (i : ℕ) (p : Placed) → get_or log i None ≡ Some p → i < length log
entry-inside log i p here = elim (cases_lt i (length log)) [
  | inl inside ↦ inside
  | inr past ↦ absurd (let none = get_or_past log i None past in cc (none, here))
]
