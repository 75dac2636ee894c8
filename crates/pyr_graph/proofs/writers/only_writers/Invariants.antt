use Rattle.pyr_graph.proofs.WriterLemmas.{AreOnly}
use Rattle.pyr_graph.proofs.writers.only_writers.Given as goal

-- the writers so far are those of the table
abbrev pub invariant-loop-entry : goal.invariant-loop-entry
invariant-loop-entry l = AreOnly l.table l.writers.items l.entry-index
