use Rattle.std.proofs.Common.{◌≡◌, map, take}
use Rattle.pyr_bundle.specs.Parts.{instr_of}
use Rattle.pyr_bundle.proofs.typing.instrs_of.Given as goal

abbrev pub invariant-loop-instr : goal.invariant-loop-instr
invariant-loop-instr l = l.instrs.items ≡ map instr_of (take l.instr-index l.code)
