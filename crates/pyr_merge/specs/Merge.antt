-- How clusters come onto processors: by falling load, each to the processor with the least load so
-- far.
use Rattle.std.specs.Prelude.{◌≡◌, ◌⊎◌, ℕ, ◌+◌, ◌<◌, ◌≤◌, List, [], ◌∷◌, All, AllPairs, Contains, length, replicate, sum_by, slice_index, slice_index_or, slice_set}
use Rattle.pyr_graph.specs.declared.placement.Placement.{Placement}
use Rattle.pyr_graph.specs.System.{System, task_count, cost_of}
use Rattle.pyr_graph.specs.Placements.{processor_of}

-- the tasks of the cluster of this number
abbrev pub tasks_of : List (List ℕ) → ℕ → List ℕ
tasks_of clusters k = slice_index_or clusters k []

-- the load of a cluster: the sum of the costs of its tasks
abbrev pub load_of : System → List (List ℕ) → ℕ → ℕ
load_of s clusters k = sum_by (cost_of s) (tasks_of clusters k)

-- cluster a comes before cluster b: its load is greater, or is the same and its number smaller
abbrev pub ComesBefore : System → List (List ℕ) → ℕ → ℕ → Type 0
ComesBefore s clusters a b =
    (load_of s clusters b < load_of s clusters a)
    ⊎ ((load_of s clusters a ≡ load_of s clusters b) × (a < b))

-- the numbers of all clusters by falling load, ties to the smaller number
pub record IsByFallingLoad (s : System) (clusters : List (List ℕ)) (order : List ℕ) : Type 0 where
  pub numbers : All (λ k. k < length clusters) order
  pub each : (k : ℕ) → k < length clusters → Contains order k
  pub falling : AllPairs (ComesBefore s clusters) order

-- of processors with these loads, p is the one with the least, the smallest of those that have it
pub record IsLeastLoaded (loads : List ℕ) (p : ℕ) : Type 0 where
  pub inside : p < length loads
  pub least : (q : ℕ) → q < length loads → slice_index loads p ≤ slice_index loads q
  pub smallest : (q : ℕ) → q < p → slice_index loads p < slice_index loads q

-- the loads, where processor p has this much more
abbrev pub with_load : List ℕ → ℕ → ℕ → List ℕ
with_load loads p more = slice_set loads p (slice_index loads p + more)

-- From the loads before to those after, each of these clusters in turn goes to the processor with
-- the least load so far; the third list has the processor of each.
abbrev pub IsDealt : (ℕ → ℕ) → List ℕ → List ℕ → List ℕ → List ℕ → Type 0
IsDealt load before [] [] after = before ≡ after
IsDealt load before (k ∷ order) (p ∷ targets) after =
    IsLeastLoaded before p × IsDealt load (with_load before p (load k)) order targets after
IsDealt load before [] (p ∷ targets) after = ⊥
IsDealt load before (k ∷ order) [] after = ⊥

-- The placement is that of the clusters on so many processors: they are taken by falling load, each
-- goes to the processor with the least load so far, and each task is where its cluster is.
pub record IsMerged (s : System) (clusters : List (List ℕ)) (processors : ℕ)
    (placement : Placement) : Type 0 where
  pub order : List ℕ
  pub by_load : IsByFallingLoad s clusters order
  pub targets : List ℕ
  pub loads : List ℕ
  pub dealt : IsDealt (load_of s clusters) (replicate processors 0) order targets loads
  pub count : placement.processors ≡ processors
  pub full : length placement.of ≡ task_count s
  pub tasks : (i t : ℕ) → i < length order → Contains (tasks_of clusters (slice_index order i)) t
      → processor_of placement t ≡ slice_index targets i
