use Rattle.std.proofs.Common.{◌≡◌, take}
use Rattle.pyr_graph.specs.Clusters.{cluster_numbers}
use Rattle.pyr_merge.specs.Weighed.{weighed_from}
use Rattle.pyr_merge.proofs.weighed.weighed_clusters.Given as goal

abbrev pub invariant-loop-cluster : goal.invariant-loop-cluster
invariant-loop-cluster l = l.order.items ≡ weighed_from l.graph 0 (cluster_numbers (take l.cluster l.clusters))
