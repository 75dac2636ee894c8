use Rattle.std.proofs.Common.{ℕ, ◌<◌, ◌≢◌}
use Rattle.std.specs.Prelude.{slice_index_or}
use Rattle.pyr_graph.specs.declared.writers.Writer.{Writer}
use Rattle.pyr_graph.proofs.writers.first_with.Given as goal

-- no datum so far has the entry
abbrev pub invariant-loop-number : goal.invariant-loop-number
invariant-loop-number l = (e : ℕ) (w : Writer) → e < l.number → slice_index_or l.table e w ≢ l.entry
