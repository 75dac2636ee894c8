use Rattle.std.proofs.Common.{ℕ, List, length, true≢false, sym, ap, ◌∙◌}
use Rattle.pyr_team.proofs.PrintLemmas.{home_has}
use Rattle.pyr_team.proofs.printing.words_at.Goals as goal

pub unreachable-requires : goal.unreachable-requires
unreachable-requires c =
    let b = c.args.loaded.now.bundle in
    let is = c.is_good.ensures.bundle in
    let top = c.parcels_hold_values.ensures.order b c.args.loaded.now.steps 0 is c.is_good.ensures.good in
    let has = home_has b c.args.ran.now c.args.home c.args.d.0 c.index-ran-home.result top.0 is c.ends_have_values.ensures c.requires.ran c.index-ran-home.is c.requires.home top.1 in
    true≢false (sym (c.in-None.ensures.there ∙ has.there))

pub returns-clause-value : goal.returns-clause-value
returns-clause-value c order top =
    c.in-Some.ensures.words
    ∙ (home_has c.args.loaded.now.bundle c.args.ran.now c.args.home c.args.d.0 c.index-ran-home.result order c.is_good.ensures.bundle c.ends_have_values.ensures c.requires.ran c.index-ran-home.is c.requires.home top).words

pub returns-clause-length : goal.returns-clause-length
returns-clause-length c =
    let b = c.args.loaded.now.bundle in
    let is = c.is_good.ensures.bundle in
    let top = c.parcels_hold_values.ensures.order b c.args.loaded.now.steps 0 is c.is_good.ensures.good in
    let has = home_has b c.args.ran.now c.args.home c.args.d.0 c.index-ran-home.result top.0 is c.ends_have_values.ensures c.requires.ran c.index-ran-home.is c.requires.home top.1 in
    ap (λ (v : List ℕ). length v) (c.in-Some.ensures.words ∙ has.words) ∙ (c.every_datum_has_a_value.ensures b 0 top.0 is top.1 c.args.d.0 c.requires.known).1
