use Rattle.std.proofs.Common.{take}
use Rattle.pyr_bundle.specs.Parts.{datum_count}
use Rattle.pyr_loader.proofs.UnreceivedLemmas.{AreMarked}
use Rattle.pyr_loader.proofs.leftover.marks_of.Given as goal

abbrev pub invariant-loop-instr : goal.invariant-loop-instr
invariant-loop-instr l = AreMarked (datum_count l.bundle) (take l.instr-index l.instr-items) l.marks.items
