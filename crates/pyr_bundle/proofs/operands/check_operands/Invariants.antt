use Rattle.pyr_bundle.specs.Law.{IsKeptBefore}
use Rattle.pyr_bundle.specs.Laws.{operands}
use Rattle.pyr_bundle.proofs.operands.check_operands.Given as goal

abbrev pub invariant-loop-p : goal.invariant-loop-p
invariant-loop-p l = IsKeptBefore (operands l.raw) l.p 0

abbrev pub invariant-loop-i : goal.invariant-loop-i
invariant-loop-i l = IsKeptBefore (operands l.raw) l.p l.i
