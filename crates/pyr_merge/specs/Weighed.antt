-- What the merging keeps of the clusters, and of the tasks that it has placed. No public clause
-- cites this.
use Rattle.std.specs.Prelude.{ℕ, ◌+◌, Bool, false, if◌then◌else◌, List, [], ◌∷◌, map, slice_index_or, sum_by}
use Rattle.pyr_num.specs.declared.ids.ProcId.{ProcId}
use Rattle.pyr_graph.specs.System.{System, cost_of}
use Rattle.pyr_merge.specs.declared.weighed.Weighed.{Weighed}

-- a cluster with its load
abbrev pub weighed : System → ℕ → List ℕ → Weighed
weighed s k tasks = record { load = record { 0 = sum_by (cost_of s) tasks }; cluster = k }

-- these clusters, numbered from k on
abbrev pub weighed_from : System → ℕ → List (List ℕ) → List Weighed
weighed_from s k [] = []
weighed_from s k (tasks ∷ clusters) = weighed s k tasks ∷ weighed_from s (k + 1) clusters

-- the numbers of these
abbrev pub numbers_of : List Weighed → List ℕ
numbers_of order = map (λ w. w.cluster) order

-- the processor of a task, by this list
abbrev pub placed_on : List ProcId → ℕ → ℕ
placed_on of t = (slice_index_or of t (record { 0 = 0 })).0

-- how often a task is marked: once or never
abbrev pub marks : List Bool → ℕ → ℕ
marks marked t = if slice_index_or marked t false then 1 else 0
