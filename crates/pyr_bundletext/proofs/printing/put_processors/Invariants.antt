use Rattle.std.proofs.Common.{◌≡◌, ◌++◌, drop, map}
use Rattle.std.specs.List.{AllByRecursion}
use Rattle.pyr_bundletext.specs.Spelled.{IsSpelledInstr}
use Rattle.pyr_bundle.specs.Parts.{raw_instr_of}
use Rattle.pyr_bundletext.specs.Text.{processors_text}
use Rattle.pyr_bundletext.proofs.printing.put_processors.Given as goal

abbrev pub invariant-loop-p : goal.invariant-loop-p
invariant-loop-p l = record {
  text : l.text.items ++ processors_text l.p (map (map raw_instr_of) (drop l.p l.bundle.code))
      ≡ l.initial.text.items ++ processors_text 0 (map (map raw_instr_of) l.bundle.code);
  words : AllByRecursion (AllByRecursion IsSpelledInstr) (map (map raw_instr_of) (drop l.p l.bundle.code)) → AllByRecursion (AllByRecursion IsSpelledInstr) (map (map raw_instr_of) l.bundle.code);
}
