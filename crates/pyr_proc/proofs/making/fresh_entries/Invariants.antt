use Rattle.pyr_proc.specs.Making.{ArePrepared}
use Rattle.pyr_proc.proofs.making.fresh_entries.Given as goal

abbrev pub invariant-loop-instr : goal.invariant-loop-instr
invariant-loop-instr l = ArePrepared l.bundle l.fn.p.0 l.instr-index l.entries.items
