use Rattle.std.proofs.Common.{◌≡◌, length, ap, ◌∙◌}
use Rattle.std.specs.Prelude.{vec_len}
use Rattle.std.proofs.lemmas.List.{with_items_is}
use Rattle.pyr_bundle.proofs.channels.send_counts.Goals as goal

pub returns-clause-full : goal.returns-clause-full
returns-clause-full c =
    let same : length c.count_sends.new.counts ≡ vec_len c.in_ok-counts.counts = c.count_sends.auto.counts ∙ c.deref_mut.ensures.len in
    ap length (with_items_is c.in_ok-counts.counts c.count_sends.new.counts same) ∙ same ∙ c.in_ok-counts.ensures.len
