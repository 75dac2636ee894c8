use Rattle.std.proofs.Common.{◌≡◌, List, add-one, ap, sym, ◌∙◌}
use Rattle.std.proofs.lemmas.List.{take_all}
use Rattle.pyr_num.specs.declared.ids.TaskId.{TaskId}
use Rattle.pyr_graph.specs.System.{task_numbers}
use Rattle.pyr_graph.specs.Clusters.{cluster_numbers}
use Rattle.pyr_merge.specs.Weighed.{weighed, weighed_from}
use Rattle.pyr_merge.proofs.RowLemmas.{row-inside, row-small, all-more}
use Rattle.pyr_merge.proofs.weighed.weighed_clusters.Goals as goal

pub load_of-requires-clause-tasks : goal.load_of-requires-clause-tasks
load_of-requires-clause-tasks c =
    rw c.as_slice.ensures
    (row-inside c.args.graph.now c.args.clusters.now c.requires c.loop-cluster.cluster c.index-clusters-cluster.result c.loop-cluster-test.true c.index-clusters-cluster.is)

pub load_of-requires-clause-fits : goal.load_of-requires-clause-fits
load_of-requires-clause-fits c =
    rw c.as_slice.ensures
    (row-small c.args.graph.now c.args.clusters.now c.requires c.loop-cluster.cluster c.index-clusters-cluster.result c.loop-cluster-test.true c.index-clusters-cluster.is c.well_formed-2.ensures)

pub loop-cluster-preserved : goal.loop-cluster-preserved
loop-cluster-preserved c =
    let one : record { load = record { 0 = c.load_of.result }; cluster = c.loop-cluster.cluster } ≡ weighed c.args.graph.now c.loop-cluster.cluster (task_numbers c.index-clusters-cluster.result) =
    rw (c.load_of.ensures, c.as_slice.ensures) in
    rw add-one
    (c.in_ok-push.ensures.items
    ∙ (rw (one, c.loop-cluster.invariant)
    (sym (all-more c.args.graph.now c.args.clusters.now c.loop-cluster.cluster c.index-clusters-cluster.result c.loop-cluster-test.true c.index-clusters-cluster.is))))

pub loop-cluster-init : goal.loop-cluster-init
loop-cluster-init c = c.in_ok-order.ensures.items

pub returns : goal.returns
returns c =
    c.loop-cluster.invariant ∙ ap (λ (l : List (List TaskId)). weighed_from c.args.graph.now 0 (cluster_numbers l)) (take_all c.loop-cluster.cluster c.args.clusters.now c.loop-cluster-test.false)
