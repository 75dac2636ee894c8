use Rattle.std.proofs.Common.{◌≡◌, ◌<◌, ◌≤◌, true, [], ◌++◌, length, ap, ◌∙◌, subst}
use Rattle.std.proofs.lemmas.List.{take_more, take_all, drop_more, drop_all}
use Rattle.pyr_num.specs.Name.{is_name}
use Rattle.pyr_bundle.specs.declared.raw_datum.RawDatum.{RawDatum}
use Rattle.pyr_bundletext.specs.Text.{datum_text}
use Rattle.pyr_bundletext.proofs.PrintingLemmas.{items_more, items_all, words_more, words_all}
use Rattle.pyr_bundletext.proofs.printing.put_datums.Goals as goal

abbrev no_datum : RawDatum
no_datum = record { name = []; length = 0 }

pub loop-d-preserved : goal.loop-d-preserved
loop-d-preserved c =
    let datums = c.args.bundle.now.datums in
    let l : c.loop-d.d < length datums = subst (λ n. c.loop-d.d < n) c.datum_count-d-end.ensures c.loop-d-test.true in
    record {
      text = items_more datum_text _ _ _ _ _ _ (take_more datums c.loop-d.d no_datum l) c.loop-d.invariant.text (c.in_ok-put_datum.ensures.text ∙ ap (λ (x : RawDatum). c.loop-d.text.items ++ datum_text x) c.datum.ensures);
      words = words_more (λ (x : RawDatum). is_name x.name ≡ true) _ _ _ _ (drop_more datums c.loop-d.d no_datum l) (subst (λ (x : RawDatum). is_name x.name ≡ true) c.datum.ensures c.in_ok-put_datum.ensures.named) c.loop-d.invariant.words;
    }

pub returns : goal.returns
returns c =
    let datums = c.args.bundle.now.datums in
    let l : length datums ≤ c.loop-d.d = subst (λ n. n ≤ c.loop-d.d) c.datum_count-d-end.ensures c.loop-d-test.false in
    record {
      text = items_all datum_text _ _ _ _ (take_all c.loop-d.d datums l) c.loop-d.invariant.text;
      names = words_all (λ (x : RawDatum). is_name x.name ≡ true) _ _ (drop_all c.loop-d.d datums l) c.loop-d.invariant.words;
    }
