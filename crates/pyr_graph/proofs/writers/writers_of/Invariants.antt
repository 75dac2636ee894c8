use Rattle.pyr_graph.proofs.WriterLemmas.{AreKnown}
use Rattle.pyr_graph.proofs.writers.writers_of.Given as goal

-- the table tells of the tasks so far
abbrev pub invariant-loop-number : goal.invariant-loop-number
invariant-loop-number l = AreKnown l.tasks l.count l.number l.table.items
