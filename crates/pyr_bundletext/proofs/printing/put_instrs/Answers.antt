use Rattle.std.proofs.Common.{map, ap}
use Rattle.std.proofs.lemmas.List.{map_more, take_all, drop_more, drop_all}
use Rattle.pyr_bundle.specs.Parts.{raw_instr_of}
use Rattle.pyr_bundletext.specs.Text.{instr_text}
use Rattle.pyr_bundletext.specs.Spelled.{IsSpelledInstr}
use Rattle.pyr_bundletext.proofs.PrintingLemmas.{items_more, items_all, words_more, words_all}
use Rattle.pyr_bundletext.proofs.printing.put_instrs.Goals as goal

pub loop-instr-preserved : goal.loop-instr-preserved
loop-instr-preserved c = record {
  text = items_more instr_text _ _ _ _ _ _ (map_more raw_instr_of c.args.code.now c.loop-instr.instr-index _ c.loop-instr-test.true) c.loop-instr.invariant.text c.in_ok-put_instr.ensures.text;
  words = words_more IsSpelledInstr _ _ _ _ (ap (map raw_instr_of) (drop_more c.args.code.now c.loop-instr.instr-index _ c.loop-instr-test.true)) c.in_ok-put_instr.ensures.words c.loop-instr.invariant.words;
}

pub returns : goal.returns
returns c = record {
  text = items_all instr_text _ _ _ _ (ap (map raw_instr_of) (take_all c.loop-instr.instr-index c.args.code.now c.loop-instr-test.false)) c.loop-instr.invariant.text;
  words = words_all IsSpelledInstr _ _ (ap (map raw_instr_of) (drop_all c.loop-instr.instr-index c.args.code.now c.loop-instr-test.false)) c.loop-instr.invariant.words;
}
