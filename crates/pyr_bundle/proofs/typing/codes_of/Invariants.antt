use Rattle.std.proofs.Common.{◌≡◌, map, take}
use Rattle.pyr_bundle.specs.Parts.{instr_of}
use Rattle.pyr_bundle.proofs.typing.codes_of.Given as goal

abbrev pub invariant-loop-code : goal.invariant-loop-code
invariant-loop-code l = l.typed.items ≡ map (map instr_of) (take l.code-index l.codes)
