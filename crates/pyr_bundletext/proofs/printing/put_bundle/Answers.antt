use Rattle.std.proofs.Common.{ℕ, List, map, sym, ap, subst, ◌∙◌}
use Rattle.std.specs.List.{AllByRecursion}
use Rattle.std.proofs.lemmas.List.{length-map}
use Rattle.std.proofs.lemmas.Result.{on_ok_weaker}
use Rattle.pyr_num.specs.declared.ids.DatumId.{DatumId}
use Rattle.pyr_bundle.specs.declared.capacity.Capacity.{Capacity}
use Rattle.pyr_bundle.specs.Parts.{raw_of, raw_channel_of, raw_instr_of}
use Rattle.pyr_bundletext.specs.Spelled.{IsWord, IsSpelledChannel, IsSpelled}
use Rattle.pyr_bundletext.proofs.PrintingLemmas.{on_any, bundle_written}
use Rattle.pyr_bundletext.proofs.printing.put_bundle.Goals as goal

abbrev numbers : List DatumId → List ℕ
numbers ds = map (λ (d : DatumId). d.0) ds

pub returns-clause-text : goal.returns-clause-text
returns-clause-text c =
    let b = c.args.bundle.now in
    on_ok_weaker _ (bundle_written (raw_of b) c.from.result (numbers c.prints.result.now) (map raw_channel_of c.channels.result.now) _ _ _ _ _ _ _ _ _
    (c.from.ensures ∙ c.processors.ensures ∙ sym (length-map b.code (map raw_instr_of))) (ap numbers c.prints.ensures) (ap (map raw_channel_of) c.channels.ensures)
    c.requires.empty c.in_ok-put_line.ensures.text c.in_ok-put_line-2.ensures.text c.in_ok-put_datums.ensures.text c.in_ok-put_tasks.ensures.text
    c.in_ok-put_prints.ensures.text c.in_ok-put_channels.ensures.text c.in_ok-put_processors.ensures.text) c.put_line-3.ensures.text

pub returns-clause-words : goal.returns-clause-words
returns-clause-words c =
    let words : IsSpelled (raw_of c.args.bundle.now) = record {
      names = c.in_ok-put_datums.ensures.names;
      tasks = c.in_ok-put_tasks.ensures.words;
      prints = subst (λ (ds : List DatumId). AllByRecursion IsWord (numbers ds)) c.prints.ensures c.in_ok-put_prints.ensures.words;
      channels = subst (λ (cs : List Capacity). AllByRecursion IsSpelledChannel (map raw_channel_of cs)) c.channels.ensures c.in_ok-put_channels.ensures.words;
      code = c.in_ok-put_processors.ensures.words;
    } in
    on_any _ words
