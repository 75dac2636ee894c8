-- What a partition says of its clusters.
use Rattle.std.proofs.Common.{◌≡◌, ℕ, zero, suc, ◌+◌, ◌<◌, ◌≤◌, ◌^◌, Bool, true, false, cond, List, [], ◌∷◌, ◌++◌, inl, inr, refl, arith, ap, ◌∙◌, length, eqb}
use Rattle.std.specs.Prelude.{nat_eq, count_by, sum_by, Contains}
use Rattle.std.specs.List.{list_any, AllByRecursion, IsDistinct}
use Rattle.std.proofs.lemmas.Bool.{cases_Bool, cases_lt, le-ltb, lt-ltb}
use Rattle.std.proofs.lemmas.List.Recursion.{is_count_by}
use Rattle.std.proofs.lemmas.List.Sums.{sum_by-append, sum_by-le}
use Rattle.std.proofs.lemmas.Map.Steps.{length-le_from_distinct_below}
use Rattle.pyr_num.specs.declared.limits.TheConstants.Limits.{TASKS, COST}
use Rattle.pyr_graph.specs.System.{System, task_count, cost_of}
use Rattle.pyr_graph.specs.WholeGraph.{IsGraph}
use Rattle.pyr_graph.specs.Clusters.{times_in_clusters, IsPartition}
use Rattle.pyr_graph.proofs.ListLemmas.{nat_eq-same, Contains-tested, tested-Contains}
use Rattle.pyr_merge.specs.Merge.{tasks_of}

-- how often a number stands in a list, by recursion
abbrev pub times : ℕ → List ℕ → ℕ
times t [] = 0
times t (x ∷ xs) = cond (nat_eq t x) (1 + times t xs) (times t xs)

pub times-count_by : (t : ℕ) (xs : List ℕ) → times t xs ≡ count_by (nat_eq t) xs
times-count_by t xs = is_count_by (times t) (nat_eq t) refl (λ x ys. refl) xs

-- a list that holds a number has it once at least
times-some : (t : ℕ) (xs : List ℕ) → list_any (nat_eq t) xs ≡ true → 1 ≤ times t xs
times-some t [] is = let e : false ≡ true = is in absurd (cc)
times-some t (x ∷ xs) is = elim (cases_Bool (nat_eq t x)) [
  | inl here ↦ rw here (omega arith)
  | inr other ↦ rw other (times-some t xs (rw other at is))
]

pub times-held : (t : ℕ) (xs : List ℕ) → 1 ≤ times t xs → list_any (nat_eq t) xs ≡ true
times-held t [] some = absurd (omega arith)
times-held t (x ∷ xs) some = elim (cases_Bool (nat_eq t x)) [
  | inl here ↦ rw here
  | inr other ↦ rw other (times-held t xs (rw other at some))
]

pub Contains-times : (t : ℕ) (xs : List ℕ) → Contains xs t → 1 ≤ times t xs
Contains-times t xs held = times-some t xs (tested-Contains t xs held)

-- the tasks of all clusters
abbrev pub flat : List (List ℕ) → List ℕ
flat [] = []
flat (tasks ∷ clusters) = tasks ++ flat clusters

times-append : (t : ℕ) (xs ys : List ℕ) → times t (xs ++ ys) ≡ times t xs + times t ys
times-append t [] ys = omega arith
times-append t (x ∷ xs) ys = rw (times-append t xs ys) (one-more (nat_eq t x) (times t xs) (times t ys))
  where
    one-more : (b : Bool) (m n : ℕ) → cond b (1 + (m + n)) (m + n) ≡ cond b (1 + m) m + n
    one-more true m n = omega arith
    one-more false m n = refl

pub times-flat : (clusters : List (List ℕ)) (t : ℕ) → times t (flat clusters) ≡ times_in_clusters clusters t
times-flat [] t = refl
times-flat (tasks ∷ clusters) t = times-append t tasks (flat clusters) ∙ rw (times-count_by t tasks, times-flat clusters t)

-- a list in which no number stands twice
none-same : (t : ℕ) (xs : List ℕ) → times t xs ≤ 0 → AllByRecursion (λ y. eqb t y ≡ false) xs
none-same t [] none = tt
none-same t (x ∷ xs) none = elim (cases_Bool (nat_eq t x)) [
  | inl here ↦ absurd (let fact : 1 + times t xs ≤ 0 = rw here at none in omega arith)
  | inr other ↦ (other, none-same t xs (rw other at none))
]

IsDistinct-from_times : (xs : List ℕ) → ((t : ℕ) → times t xs ≤ 1) → IsDistinct eqb xs
unfolding IsDistinct
IsDistinct-from_times [] once = tt
IsDistinct-from_times (x ∷ xs) once = (
  none-same x xs (let fact : 1 + times x xs ≤ 1 = rw (nat_eq-same x x refl) at (once x) in omega arith),
  IsDistinct-from_times xs (λ t. later t (nat_eq t x) (once t)),
)
  where
    later : (t : ℕ) (b : Bool) → cond b (1 + times t xs) (times t xs) ≤ 1 → times t xs ≤ 1
    later t true le = omega arith
    later t false le = le

-- a cluster holds a task no more often than all clusters together
times-cluster : (clusters : List (List ℕ)) (k t : ℕ) → times t (tasks_of clusters k) ≤ times_in_clusters clusters t
times-cluster [] k t = omega arith
times-cluster (tasks ∷ clusters) zero t = omega (arith, times-count_by t tasks)
times-cluster (tasks ∷ clusters) (suc k) t = omega (arith, times-cluster clusters k t)

-- a cluster's sum is no greater than that of all clusters together
pub sum-cluster : (f : ℕ → ℕ) (clusters : List (List ℕ)) (k : ℕ) → sum_by f (tasks_of clusters k) ≤ sum_by f (flat clusters)
sum-cluster f [] k = omega arith
sum-cluster f (tasks ∷ clusters) zero = omega (arith, sum_by-append f tasks (flat clusters))
sum-cluster f (tasks ∷ clusters) (suc k) = omega (arith, sum_by-append f tasks (flat clusters), sum-cluster f clusters k)

-- a task that stands in the clusters once at most is in one of them at most
pub one-cluster : (clusters : List (List ℕ)) (t : ℕ) → times_in_clusters clusters t ≤ 1
    → (j k : ℕ) → Contains (tasks_of clusters j) t → Contains (tasks_of clusters k) t → j ≡ k
one-cluster [] t once j k one other = absurd (let fact = Contains-times t [] one in omega (arith, fact))
one-cluster (tasks ∷ clusters) t once zero zero one other = refl
one-cluster (tasks ∷ clusters) t once zero (suc k) one other =
    absurd (omega (arith, times-count_by t tasks, Contains-times t tasks one, Contains-times t (tasks_of clusters k) other, times-cluster clusters k t))
one-cluster (tasks ∷ clusters) t once (suc j) zero one other =
    absurd (omega (arith, times-count_by t tasks, Contains-times t tasks other, Contains-times t (tasks_of clusters j) one, times-cluster clusters j t))
one-cluster (tasks ∷ clusters) t once (suc j) (suc k) one other =
    ap suc (one-cluster clusters t (omega arith) j k one other)

-- and one that stands there is in some cluster
pub some-cluster : (clusters : List (List ℕ)) (t : ℕ) → 1 ≤ times_in_clusters clusters t
    → (k : ℕ) × (k < length clusters) × Contains (tasks_of clusters k) t
some-cluster [] t some = absurd (omega arith)
some-cluster (tasks ∷ clusters) t some = elim (cases_lt 0 (times t tasks)) [
  | inl here ↦ (0, omega arith, Contains-tested t tasks (times-held t tasks here))
  | inr none ↦
      let (k, inside, held) = some-cluster clusters t (omega (arith, times-count_by t tasks)) in
      (suc k, omega (arith, inside), held)
]

-- a task that some cluster holds stands in the clusters
pub some-times : (clusters : List (List ℕ)) (t : ℕ) → list_any (λ tasks. list_any (nat_eq t) tasks) clusters ≡ true → 1 ≤ times_in_clusters clusters t
some-times [] t is = let e : false ≡ true = is in absurd (cc)
some-times (tasks ∷ clusters) t is = elim (cases_Bool (list_any (nat_eq t) tasks)) [
  | inl here ↦ omega (arith, times-some t tasks here, times-count_by t tasks)
  | inr other ↦ (let rest : 1 ≤ times_in_clusters clusters t = some-times clusters t (rw other at is) in omega (arith, rest))
]

module _ (s : System) (clusters : List (List ℕ)) (part : IsPartition s clusters) where
  pub once : (t : ℕ) → times_in_clusters clusters t ≤ 1
  once t = elim (cases_lt t (task_count s)) [
    | inl less ↦ (let fact : times_in_clusters clusters t ≡ 1 = rw (lt-ltb t (task_count s) less) at (part t) in omega arith)
    | inr past ↦ (let fact : times_in_clusters clusters t ≡ 0 = rw (le-ltb t (task_count s) past) at (part t) in omega arith)
  ]

  pub stands : (t : ℕ) → t < task_count s → 1 ≤ times_in_clusters clusters t
  stands t less = let fact : times_in_clusters clusters t ≡ 1 = rw (lt-ltb t (task_count s) less) at (part t) in omega arith

  inside : (t : ℕ) → 1 ≤ times_in_clusters clusters t → t < task_count s
  inside t some = elim (cases_lt t (task_count s)) [
    | inl less ↦ less
    | inr past ↦ absurd (let fact : times_in_clusters clusters t ≡ 0 = rw (le-ltb t (task_count s) past) at (part t) in omega arith)
  ]

  -- the tasks of a cluster are tasks of the graph
  pub tasks-inside : (k t : ℕ) → Contains (tasks_of clusters k) t → t < task_count s
  tasks-inside k t held = inside t (omega (arith, Contains-times t (tasks_of clusters k) held, times-cluster clusters k t))

  flat-few : length (flat clusters) ≤ task_count s
  flat-few = length-le_from_distinct_below (flat clusters) (task_count s)
      (IsDistinct-from_times (flat clusters) (λ t. omega (arith, times-flat clusters t, once t)))
      (λ t is. inside t (omega (arith, times-flat clusters t, times-some t (flat clusters) is)))

  -- the costs of all tasks together are small
  pub all-small : IsGraph s → sum_by (cost_of s) (flat clusters) < 2 ^ 64
  all-small graph =
      let most = sum_by-le (cost_of s) COST (flat clusters) (λ k d less. graph.limits.costs _) in
      let few : length (flat clusters) ≤ TASKS = omega (arith, flat-few, graph.limits.tasks) in
      omega (arith, most, few)
