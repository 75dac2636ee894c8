use Rattle.std.proofs.Common.{◌≡◌, ◌++◌, take, map, drop}
use Rattle.pyr_bundletext.specs.Spelled.{IsSpelledInstr}
use Rattle.std.specs.List.{flat_map, AllByRecursion}
use Rattle.pyr_bundle.specs.Parts.{raw_instr_of}
use Rattle.pyr_bundletext.specs.Text.{instr_text}
use Rattle.pyr_bundletext.proofs.printing.put_instrs.Given as goal

abbrev pub invariant-loop-instr : goal.invariant-loop-instr
invariant-loop-instr l = record {
  text : l.text.items ≡ l.initial.text.items ++ flat_map instr_text (map raw_instr_of (take l.instr-index l.code));
  words : AllByRecursion IsSpelledInstr (map raw_instr_of (drop l.instr-index l.code)) → AllByRecursion IsSpelledInstr (map raw_instr_of l.code);
}
