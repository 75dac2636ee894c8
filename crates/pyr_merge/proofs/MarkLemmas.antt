-- Marks on tasks, and the partition that they tell.
use Rattle.std.proofs.Common.{◌≡◌, ℕ, zero, suc, ◌+◌, ◌<◌, ◌≤◌, Bool, true, false, cond, List, [], ◌∷◌, inl, inr, refl, arith, sym, ◌∙◌, length, get_or, take}
use Rattle.std.specs.Prelude.{nat_eq, nat_lt, count_by, All}
use Rattle.std.proofs.lemmas.Bool.{cases_Bool, cases_lt, le-ltb, lt-ltb}
use Rattle.std.proofs.lemmas.List.{get_or_past, get_or_default}
use Rattle.pyr_num.specs.declared.ids.TaskId.{TaskId}
use Rattle.pyr_graph.specs.System.{System, task_count, task_numbers}
use Rattle.pyr_graph.specs.Clusters.{cluster_numbers, times_in_clusters, IsPartition}
use Rattle.pyr_graph.proofs.ListLemmas.{nat_eq-same}
use Rattle.pyr_merge.specs.Weighed.{marks}
use Rattle.pyr_merge.proofs.PartLemmas.{times, times-count_by}

times-more : (x : ℕ) (tasks : List TaskId) (i : ℕ) (d : TaskId) → i < length tasks → (get_or tasks i d).0 ≡ x
    → times x (task_numbers (take i tasks)) + 1 ≤ times x (task_numbers tasks)
times-more x [] i d inside here = absurd (omega arith)
times-more x (y ∷ tasks) zero d inside here = rw (nat_eq-same x y.0 (sym here)) (omega arith)
times-more x (y ∷ tasks) (suc i) d inside here = elim (cases_Bool (nat_eq x y.0)) [
  | inl is ↦ rw is (omega (arith, times-more x tasks i d (omega arith) here))
  | inr other ↦ rw other (times-more x tasks i d (omega arith) here)
]

-- a task that is no task of the graph, or is marked already, stands in the clusters too often
pub marked-twice : (marked initial : List Bool) (tasks : List TaskId) (i : ℕ) (d : TaskId) → i < length tasks → length marked ≡ length initial
    → ((t : ℕ) → marks marked t ≡ marks initial t + count_by (nat_eq t) (task_numbers (take i tasks)))
    → cond (nat_lt (get_or tasks i d).0 (length initial)) 1 0 ≤ marks marked (get_or tasks i d).0
    → cond (nat_lt (get_or tasks i d).0 (length initial)) 1 0 < marks initial (get_or tasks i d).0 + count_by (nat_eq (get_or tasks i d).0) (task_numbers tasks)
marked-twice marked initial tasks i d inside full invariant most =
    let x : ℕ = (get_or tasks i d).0 in
    omega (arith, invariant x, most, times-more x tasks i d inside refl, times-count_by x (task_numbers tasks), times-count_by x (task_numbers (take i tasks)))

-- one more cluster
pub clusters-more : (clusters : List (List TaskId)) (i t : ℕ) (d : List TaskId) → i < length clusters
    → times_in_clusters (cluster_numbers (take (suc i) clusters)) t
    ≡ times_in_clusters (cluster_numbers (take i clusters)) t + count_by (nat_eq t) (task_numbers (get_or clusters i d))
clusters-more [] i t d inside = absurd (omega arith)
clusters-more (c ∷ clusters) zero t d inside = omega arith
clusters-more (c ∷ clusters) (suc i) t d inside =
    let more = clusters-more clusters i t d (omega arith) in
    omega (arith, more)

pub clusters-take : (clusters : List (List TaskId)) (i t : ℕ) → times_in_clusters (cluster_numbers (take i clusters)) t ≤ times_in_clusters (cluster_numbers clusters) t
clusters-take [] zero t = omega arith
clusters-take [] (suc i) t = omega arith
clusters-take (c ∷ clusters) zero t = omega arith
clusters-take (c ∷ clusters) (suc i) t = omega (arith, clusters-take clusters i t)

-- what is allowed at a task: one mark, and none where there is no such task
pub allowed-past : (n x m : ℕ) → n ≤ x → cond (nat_lt x n) 1 0 ≤ m
allowed-past n x m past = rw (le-ltb x n past) (omega arith)

pub allowed-marked : (n x : ℕ) (marked : List Bool) → get_or marked x false ≡ true → cond (nat_lt x n) 1 0 ≤ marks marked x
allowed-marked n x marked is = rw is (small (nat_lt x n))
  where
    small : (b : Bool) → cond b 1 0 ≤ 1
    small true = omega arith
    small false = omega arith

module _ (s : System) (clusters : List (List TaskId)) (i : ℕ) (row : List TaskId) (inside : i < length clusters)
    (is : row ≡ get_or clusters i row) (marked : List Bool) (full : length marked ≡ task_count s)
    (are : (t : ℕ) → marks marked t ≡ times_in_clusters (cluster_numbers (take i clusters)) t) where
  pub too-often : (t : ℕ) → cond (nat_lt t (length marked)) 1 0 < marks marked t + count_by (nat_eq t) (task_numbers row)
      → IsPartition s (cluster_numbers clusters) → ⊥
  too-often t more part =
      let next = rw (← is) at (clusters-more clusters i t row inside) in
      let allowed : times_in_clusters (cluster_numbers clusters) t ≡ cond (nat_lt t (length marked)) 1 0 = rw full (part t) in
      omega (arith, more, next, allowed, are t, clusters-take clusters (suc i) t)

  pub marks-more : (new : List Bool) → ((t : ℕ) → marks new t ≡ marks marked t + count_by (nat_eq t) (task_numbers row))
      → (t : ℕ) → marks new t ≡ times_in_clusters (cluster_numbers (take (suc i) clusters)) t
  marks-more new each t =
      let next = rw (← is) at (clusters-more clusters i t row inside) in
      omega (arith, each t, next, are t)

module _ (s : System) (clusters : List (List ℕ)) (marked : List Bool) (full : length marked ≡ task_count s)
    (are : (t : ℕ) → marks marked t ≡ times_in_clusters clusters t) where
  pub IsPartition-from_marks : All (λ is. is ≡ true) marked → IsPartition s clusters
  IsPartition-from_marks all t = elim (cases_lt t (task_count s)) [
    | inl less ↦
        let is = all t false (omega arith) in
        rw (lt-ltb t (task_count s) less) (sym (are t) ∙ rw is)
    | inr past ↦
        rw (le-ltb t (task_count s) past) (sym (are t) ∙ rw (get_or_past marked t false (omega arith)))
  ]

  pub marks-from_IsPartition : IsPartition s clusters → All (λ is. is ≡ true) marked
  marks-from_IsPartition part k d inside = elim (cases_Bool (get_or marked k false)) [
    | inl is ↦ get_or_default marked k d false inside ∙ is
    | inr isn't ↦
        let less : k < task_count s = omega arith in
        let one : times_in_clusters clusters k ≡ 1 = rw (lt-ltb k (task_count s) less) at (part k) in
        let none : 0 ≡ times_in_clusters clusters k = rw isn't at (are k) in
        absurd (omega arith)
  ]
