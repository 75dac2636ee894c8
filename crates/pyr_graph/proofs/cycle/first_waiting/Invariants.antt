use Rattle.std.proofs.Common.{ℕ, ◌<◌}
use Rattle.pyr_graph.specs.Tables.{IsWaiting}
use Rattle.pyr_graph.proofs.cycle.first_waiting.Given as goal

-- no task so far waits
abbrev pub invariant-loop-number : goal.invariant-loop-number
invariant-loop-number l = (t : ℕ) → t < l.number → IsWaiting l.pending t → ⊥
