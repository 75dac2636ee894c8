use Rattle.std.proofs.Common.{◌≡◌, ℕ, length, take}
use Rattle.pyr_graph.specs.System.{task_count}
use Rattle.pyr_graph.specs.Clusters.{cluster_numbers, times_in_clusters}
use Rattle.pyr_merge.specs.Weighed.{marks}
use Rattle.pyr_merge.proofs.partition.is_partition.Given as goal

abbrev pub invariant-loop-tasks : goal.invariant-loop-tasks
invariant-loop-tasks l = record {
  full : length l.marked.items ≡ task_count l.graph;
  marked : (t : ℕ) → marks l.marked.items t ≡ times_in_clusters (cluster_numbers (take l.tasks-index l.clusters)) t;
}
