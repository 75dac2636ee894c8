use Rattle.pyr_graph.proofs.EdgeLemmas.{AreRowsSoFar}
use Rattle.pyr_graph.proofs.edges.successors_of.Given as goal

-- the rows are those of the tasks so far
abbrev pub invariant-loop-number : goal.invariant-loop-number
invariant-loop-number l = AreRowsSoFar l.tasks l.datums l.writers l.number 0 l.rows.items

-- and of the reads so far of this one
abbrev pub invariant-loop-datum : goal.invariant-loop-datum
invariant-loop-datum l = AreRowsSoFar l.tasks l.datums l.writers l.number l.datum-index l.rows.items
