use Rattle.std.proofs.Common.{ℕ, ◌++◌, map, ap, ◌∙◌, subst}
use Rattle.std.proofs.lemmas.List.{map_more, take_all, drop_more, drop_all}
use Rattle.pyr_num.specs.declared.ids.DatumId.{DatumId}
use Rattle.pyr_bundletext.specs.Text.{print_text}
use Rattle.pyr_bundletext.specs.Spelled.{IsWord}
use Rattle.pyr_bundletext.proofs.PrintingLemmas.{items_more, items_all, words_more, words_all}
use Rattle.pyr_bundletext.proofs.printing.put_prints.Goals as goal

abbrev number_of : DatumId → ℕ
number_of d = d.0

pub loop-datum-preserved : goal.loop-datum-preserved
loop-datum-preserved c = record {
  text = items_more print_text _ _ _ _ _ _ (map_more number_of c.args.prints.now c.loop-datum.datum-index (record { 0 = 0 }) c.loop-datum-test.true) c.loop-datum.invariant.text (c.in_ok-put_line.ensures.text ∙ ap (λ (n : ℕ). c.loop-datum.text.items ++ print_text n) c.from.ensures);
  words = words_more IsWord _ _ _ _ (ap (map number_of) (drop_more c.args.prints.now c.loop-datum.datum-index (record { 0 = 0 }) c.loop-datum-test.true)) (subst IsWord c.from.ensures c.from.type_inv) c.loop-datum.invariant.words;
}

pub returns : goal.returns
returns c = record {
  text = items_all print_text _ _ _ _ (ap (map number_of) (take_all c.loop-datum.datum-index c.args.prints.now c.loop-datum-test.false)) c.loop-datum.invariant.text;
  words = words_all IsWord _ _ (ap (map number_of) (drop_all c.loop-datum.datum-index c.args.prints.now c.loop-datum-test.false)) c.loop-datum.invariant.words;
}
