use Rattle.std.specs.List.{AllWithin}
use Rattle.pyr_graph.specs.Tables.{IsWaiting}
use Rattle.pyr_graph.proofs.cycle.step_back.Given as goal

-- no predecessor so far waits
abbrev pub invariant-loop-edge : goal.invariant-loop-edge
invariant-loop-edge l = AllWithin (λ e. IsWaiting l.pending e.task.0 → ⊥) l.edge-items 0 l.edge-index
