use Rattle.std.proofs.Common.{◌≡◌, ℕ, true, false, List, ap, add-one, arith, ◌∙◌, length, take_all}
use Rattle.pyr_num.specs.declared.ids.TaskId.{TaskId}
use Rattle.pyr_graph.specs.Clusters.{cluster_numbers, times_in_clusters}
use Rattle.pyr_merge.specs.Weighed.{marks}
use Rattle.pyr_merge.proofs.MarkLemmas.{too-often, marks-more, IsPartition-from_marks, marks-from_IsPartition}
use Rattle.pyr_merge.proofs.RowLemmas.{written}
use Rattle.pyr_merge.proofs.partition.is_partition.Goals as goal

pub returns-then-not-mark : goal.returns-then-not-mark
returns-then-not-mark c = (
  λ is. (let e : false ≡ true = is in absurd (cc)),
  λ part.
      let (t, more) = rw (c.deref_mut.ensures.value, c.as_slice.ensures) at c.if-not-mark.ensures.no in
      absurd (too-often c.args.graph.now c.args.clusters.now c.loop-tasks.tasks-index c.tasks-item.result c.loop-tasks-test.true c.tasks-item.is
      c.loop-tasks.marked.items c.loop-tasks.invariant.full c.loop-tasks.invariant.marked t more part),
)

pub loop-tasks-preserved : goal.loop-tasks-preserved
loop-tasks-preserved c =
    let full : length c.mark.new.marked ≡ c.loop-tasks.marked.len = omega (arith, c.mark.auto.marked, c.deref_mut.ensures.len) in
    let each = rw (c.deref_mut.ensures.value, c.as_slice.ensures) at c.if-not-mark.ensures.yes in
    rw (written c.loop-tasks.marked.len c.mark.new.marked c.loop-tasks.marked.items full, add-one)
    (record {
      full = omega (arith, c.mark.auto.marked, ap length c.deref_mut.ensures.value, c.loop-tasks.invariant.full);
      marked = marks-more c.args.graph.now c.args.clusters.now c.loop-tasks.tasks-index c.tasks-item.result c.loop-tasks-test.true c.tasks-item.is
          c.loop-tasks.marked.items c.loop-tasks.invariant.full c.loop-tasks.invariant.marked c.mark.new.marked each;
    })

pub returns : goal.returns
returns c =
    let are : (t : ℕ) → marks c.loop-tasks.marked.items t ≡ times_in_clusters (cluster_numbers c.args.clusters.now) t =
    λ t. c.loop-tasks.invariant.marked t ∙ ap (λ (rows : List (List TaskId)). times_in_clusters (cluster_numbers rows) t) (take_all c.loop-tasks.tasks-index c.args.clusters.now (omega arith)) in
    let marked = rw c.deref.ensures.value at c.are_marked.ensures in (
      λ is. IsPartition-from_marks c.args.graph.now (cluster_numbers c.args.clusters.now) c.loop-tasks.marked.items c.loop-tasks.invariant.full are (marked.0 is),
      λ part. marked.1 (marks-from_IsPartition c.args.graph.now (cluster_numbers c.args.clusters.now) c.loop-tasks.marked.items c.loop-tasks.invariant.full are part),
    )
