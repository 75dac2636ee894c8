use Rattle.std.proofs.lemmas.List.{take_all}
use Rattle.pyr_graph.proofs.RowLemmas.{counts-more}
use Rattle.pyr_graph.proofs.order.counts_of.Goals as goal

pub loop-row-preserved : goal.loop-row-preserved
loop-row-preserved c =
    counts-more c.args.predecessors.now _ _ c.loop-row.row-index _ c.row-item.result c.loop-row-test.true c.row-item.is c.len.ensures c.loop-row.invariant c.in_ok-push.ensures.items

pub returns : goal.returns
returns c = rw (take_all c.loop-row.row-index c.args.predecessors.now c.loop-row-test.false) at c.loop-row.invariant
