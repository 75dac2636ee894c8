use Rattle.pyr_proc.specs.Making.{PreparesFirst}
use Rattle.pyr_proc.proofs.making.prepare.Given as goal

abbrev pub invariant-loop-d : goal.invariant-loop-d
invariant-loop-d l = PreparesFirst l.bundle l.d-items l.d-index l.fn.entries l.entries
