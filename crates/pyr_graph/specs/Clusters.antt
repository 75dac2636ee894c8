-- Clusterings: lists of clusters, each a list of tasks in order.
use Rattle.std.specs.Prelude.{◌≡◌, ℕ, suc, ◌+◌, if◌then◌else◌, List, [], ◌∷◌, nat_eq, nat_lt, map, count_by}
use Rattle.pyr_num.specs.declared.ids.TaskId.{TaskId}
use Rattle.pyr_graph.specs.System.{System, task_count, task_numbers}

-- the numbers of the tasks of these clusters
abbrev pub cluster_numbers : List (List TaskId) → List (List ℕ)
cluster_numbers clusters = map task_numbers clusters

-- how often a task stands in the clusters
abbrev pub times_in_clusters : List (List ℕ) → ℕ → ℕ
times_in_clusters [] t = 0
times_in_clusters (cluster ∷ clusters) t = count_by (nat_eq t) cluster + times_in_clusters clusters t

-- every task stands in exactly one cluster, once, and nothing else stands in a cluster
abbrev pub IsPartition : System → List (List ℕ) → Type 0
IsPartition s clusters =
    (t : ℕ) → times_in_clusters clusters t ≡ (if nat_lt t (task_count s) then 1 else 0)

-- how many of these clusters hold a task
abbrev pub filled : List (List ℕ) → ℕ
filled [] = 0
filled ([] ∷ clusters) = filled clusters
filled ((t ∷ rest) ∷ clusters) = suc (filled clusters)
