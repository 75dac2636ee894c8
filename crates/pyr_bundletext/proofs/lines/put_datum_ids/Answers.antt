use Rattle.std.proofs.Common.{ℕ, ◌++◌, map, ap, ◌∙◌, subst}
use Rattle.std.proofs.lemmas.List.{map_more, take_all, drop_more, drop_all}
use Rattle.pyr_num.specs.declared.ids.DatumId.{DatumId}
use Rattle.pyr_bundletext.specs.Text.{spaced}
use Rattle.pyr_bundletext.specs.Spelled.{IsWord}
use Rattle.pyr_bundletext.proofs.PrintingLemmas.{items_more, items_all, words_more, words_all, line_written}
use Rattle.pyr_bundletext.proofs.lines.put_datum_ids.Goals as goal

abbrev number_of : DatumId → ℕ
number_of d = d.0

pub loop-datum-preserved : goal.loop-datum-preserved
loop-datum-preserved c = record {
  text = items_more spaced _ _ _ _ _ _ (map_more number_of c.args.datums.now c.loop-datum.datum-index (record { 0 = 0 }) c.loop-datum-test.true) c.loop-datum.invariant.text (c.in_ok-put_number.ensures ∙ ap (λ (n : ℕ). c.loop-datum.text.items ++ spaced n) c.from.ensures);
  words = words_more IsWord _ _ _ _ (ap (map number_of) (drop_more c.args.datums.now c.loop-datum.datum-index (record { 0 = 0 }) c.loop-datum-test.true)) (subst IsWord c.from.ensures c.from.type_inv) c.loop-datum.invariant.words;
}

pub returns : goal.returns
returns c = record {
  text = line_written c.args.text.now.items c.args.word.now (map number_of c.args.datums.now) _ _ (items_all spaced _ _ _ _ (ap (map number_of) (take_all c.loop-datum.datum-index c.args.datums.now c.loop-datum-test.false)) c.loop-datum.invariant.text) c.in_ok-push.ensures.items;
  words = words_all IsWord _ _ (ap (map number_of) (drop_all c.loop-datum.datum-index c.args.datums.now c.loop-datum-test.false)) c.loop-datum.invariant.words;
}
