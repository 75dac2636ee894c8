use Rattle.std.proofs.Common.{arith}
use Rattle.pyr_graph.specs.Clusters.{cluster_numbers}
use Rattle.pyr_merge.proofs.PartLemmas.{all-small}
use Rattle.pyr_merge.proofs.FallingLemmas.{IsByFallingLoad-sorted, loads-kept, sum-kept}
use Rattle.pyr_merge.proofs.weighed.by_falling_load.Goals as goal

pub returns-clause-order : goal.returns-clause-order
returns-clause-order c =
    IsByFallingLoad-sorted c.args.graph.now (cluster_numbers c.args.clusters.now) c.sort_unstable.new.self.items (rw c.in_ok-order.ensures at c.sort_unstable.ensures.permutation)
    (λ k d inside. c.sort_unstable.ensures.sorted k d (omega arith) inside)

pub returns-clause-loads : goal.returns-clause-loads
returns-clause-loads c =
    loads-kept c.args.graph.now (cluster_numbers c.args.clusters.now) c.sort_unstable.new.self.items (rw c.in_ok-order.ensures at c.sort_unstable.ensures.permutation)

pub returns-clause-small : goal.returns-clause-small
returns-clause-small c =
    let sum = sum-kept c.args.graph.now (cluster_numbers c.args.clusters.now) c.sort_unstable.new.self.items (rw c.in_ok-order.ensures at c.sort_unstable.ensures.permutation) in
    omega (arith, sum, all-small c.args.graph.now (cluster_numbers c.args.clusters.now) c.requires c.well_formed-2.ensures)
