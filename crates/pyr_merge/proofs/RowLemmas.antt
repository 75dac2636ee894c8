-- Clusters as the code has them, and as lists of numbers.
use Rattle.std.proofs.Common.{◌≡◌, ℕ, zero, suc, ◌+◌, ◌<◌, ◌≤◌, ◌^◌, List, [], ◌∷◌, ◌++◌, refl, arith, ap, sym, ◌∙◌, length, get_or, take, drop}
use Rattle.std.proofs.Math.Seq.{take-append_seam}
use Rattle.std.specs.Prelude.{sum_by, All, Contains}
use Rattle.std.proofs.lemmas.List.{get_or-map}
use Rattle.std.proofs.lemmas.List.Sums.{sum_by-cons, sum_by_more_le}
use Rattle.pyr_num.specs.declared.ids.TaskId.{TaskId}
use Rattle.pyr_graph.specs.System.{System, task_count, task_numbers, cost_of}
use Rattle.pyr_graph.specs.WholeGraph.{IsGraph}
use Rattle.pyr_graph.specs.Clusters.{cluster_numbers, IsPartition}
use Rattle.pyr_merge.specs.declared.weighed.Weighed.{Weighed}
use Rattle.pyr_merge.specs.Merge.{tasks_of}
use Rattle.pyr_merge.specs.Weighed.{weighed, weighed_from}
use Rattle.pyr_merge.proofs.PartLemmas.{tasks-inside, sum-cluster, all-small}

-- the sum over some tasks, over their numbers
sum-numbers : (f : ℕ → ℕ) (tasks : List TaskId) → sum_by f (task_numbers tasks) ≡ sum_by (λ t. f t.0) tasks
sum-numbers f [] = refl
sum-numbers f (t ∷ tasks) =
    sum_by-cons f t.0 (task_numbers tasks) ∙ (rw (sum-numbers f tasks) (sym (sum_by-cons (λ (u : TaskId). f u.0) t tasks)))

-- the sum so far with the next task's cost is within the whole sum
pub sum-more_le : (f : ℕ → ℕ) (tasks : List TaskId) (i : ℕ) (d : TaskId) → i < length tasks
    → sum_by (λ t. f t.0) (take i tasks) + f (get_or tasks i d).0 ≤ sum_by f (task_numbers tasks)
sum-more_le f tasks i d inside =
    rw (sum-numbers f tasks) (sum_by_more_le (λ (t : TaskId). f t.0) tasks i d inside)

-- a cluster of this number
pub row-tasks : (clusters : List (List TaskId)) (i : ℕ) (row : List TaskId) → i < length clusters → row ≡ get_or clusters i row
    → tasks_of (cluster_numbers clusters) i ≡ task_numbers row
row-tasks clusters i row inside is = get_or-map task_numbers clusters i row [] inside ∙ ap task_numbers (sym is)

module _ (s : System) (clusters : List (List TaskId)) (part : IsPartition s (cluster_numbers clusters)) (i : ℕ)
    (row : List TaskId) (inside : i < length clusters) (is : row ≡ get_or clusters i row) where
  pub row-inside : All (λ t. t.0 < task_count s) row
  row-inside k d less =
      let held : Contains (task_numbers row) (get_or row k d).0 = (k, row-length row k less, get_or-map (λ (t : TaskId). t.0) row k d (get_or row k d).0 less) in
      tasks-inside s (cluster_numbers clusters) part i (get_or row k d).0 (rw (row-tasks clusters i row inside is) held)
    where
      row-length : (xs : List TaskId) (j : ℕ) → j < length xs → j < length (task_numbers xs)
      row-length [] j within = within
      row-length (x ∷ xs) zero within = omega arith
      row-length (x ∷ xs) (suc j) within = (let more = row-length xs j (omega arith) in omega arith)

  pub row-small : IsGraph s → sum_by (cost_of s) (task_numbers row) < 2 ^ 64
  row-small graph =
      let part-of = rw (row-tasks clusters i row inside is) at (sum-cluster (cost_of s) (cluster_numbers clusters) i) in
      omega (arith, part-of, all-small s (cluster_numbers clusters) part graph)

-- one more cluster with its load
weighed-more : (s : System) (k : ℕ) (clusters : List (List TaskId)) (i : ℕ) (row : List TaskId) → i < length clusters → row ≡ get_or clusters i row
    → weighed_from s k (cluster_numbers (take (suc i) clusters)) ≡ weighed_from s k (cluster_numbers (take i clusters)) ++ weighed s (k + i) (task_numbers row) ∷ []
weighed-more s k [] i row inside is = absurd (omega arith)
weighed-more s k (c ∷ clusters) zero row inside is =
    rw is (ap (λ (n : ℕ). weighed s n (task_numbers c) ∷ []) (omega arith))
weighed-more s k (c ∷ clusters) (suc i) row inside is =
    ap (λ (rest : List Weighed). weighed s k (task_numbers c) ∷ rest)
    (weighed-more s (k + 1) clusters i row (omega arith) is
    ∙ ap (λ (n : ℕ). weighed_from s (k + 1) (cluster_numbers (take i clusters)) ++ weighed s n (task_numbers row) ∷ []) (omega arith))

-- what a list is whose front was written whole
pub written : {X : Type 0} (n : ℕ) (new old : List X) → length new ≡ n → take n (new ++ drop (length new) old) ≡ new
written n new old full = rw (← full) (take-append_seam new (drop (length new) old))

-- the same, of all clusters from the first on
pub all-more : (s : System) (clusters : List (List TaskId)) (i : ℕ) (row : List TaskId) → i < length clusters → row ≡ get_or clusters i row
    → weighed_from s 0 (cluster_numbers (take (suc i) clusters)) ≡ weighed_from s 0 (cluster_numbers (take i clusters)) ++ weighed s i (task_numbers row) ∷ []
all-more s clusters i row inside is =
    weighed-more s 0 clusters i row inside is
    ∙ ap (λ (n : ℕ). weighed_from s 0 (cluster_numbers (take i clusters)) ++ weighed s n (task_numbers row) ∷ []) (omega arith)
