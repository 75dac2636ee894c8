use Rattle.pyr_graph.specs.Clusters.{cluster_numbers}
use Rattle.pyr_merge.proofs.DealLemmas.{IsDealing}
use Rattle.pyr_merge.proofs.merging.merge.Given as goal

abbrev pub invariant-loop-next : goal.invariant-loop-next
invariant-loop-next l =
    IsDealing l.graph (cluster_numbers l.clustering.clusters) l.processors l.next-items l.next-index l.loads.items l.of.items
