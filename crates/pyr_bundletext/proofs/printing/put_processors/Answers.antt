use Rattle.std.proofs.Common.{◌<◌, ◌≤◌, List, [], ◌++◌, map, length, ap, ◌∙◌, subst}
use Rattle.std.specs.List.{flat_map, AllByRecursion}
use Rattle.std.proofs.lemmas.List.{drop_more, drop_all}
use Rattle.pyr_bundle.specs.declared.instr.Instr.{Instr}
use Rattle.pyr_bundle.specs.Parts.{raw_instr_of}
use Rattle.pyr_bundletext.specs.Text.{instr_text}
use Rattle.pyr_bundletext.specs.Spelled.{IsSpelledInstr}
use Rattle.pyr_bundletext.proofs.PrintingLemmas.{processor_written, processors_all, words_more, words_all}
use Rattle.pyr_bundletext.proofs.printing.put_processors.Goals as goal

pub loop-p-preserved : goal.loop-p-preserved
loop-p-preserved c =
    let codes = c.args.bundle.now.code in
    let l : c.loop-p.p < length codes = subst (λ n. c.loop-p.p < n) c.processors-p-end.ensures c.loop-p-test.true in
    let left = ap (map (map raw_instr_of)) (drop_more codes c.loop-p.p [] l) in
    record {
      text = processor_written c.loop-p.p c.from.result _ _ _ _ _ _ _ left c.from.ensures c.loop-p.invariant.text c.in_ok-put_line.ensures.text (c.in_ok-put_instrs.ensures.text ∙ ap (λ (is : List Instr). c.put_line.new.text.items ++ flat_map instr_text (map raw_instr_of is)) c.code.ensures);
      words = words_more (AllByRecursion IsSpelledInstr) _ _ _ _ left (subst (λ (is : List Instr). AllByRecursion IsSpelledInstr (map raw_instr_of is)) c.code.ensures c.in_ok-put_instrs.ensures.words) c.loop-p.invariant.words;
    }

pub returns : goal.returns
returns c =
    let codes = c.args.bundle.now.code in
    let l : length codes ≤ c.loop-p.p = subst (λ n. n ≤ c.loop-p.p) c.processors-p-end.ensures c.loop-p-test.false in
    let none = ap (map (map raw_instr_of)) (drop_all c.loop-p.p codes l) in
    record {
      text = processors_all c.loop-p.p _ _ _ none c.loop-p.invariant.text;
      words = words_all (AllByRecursion IsSpelledInstr) _ _ none c.loop-p.invariant.words;
    }
