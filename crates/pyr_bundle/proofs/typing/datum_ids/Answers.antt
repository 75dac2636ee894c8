use Rattle.std.proofs.Common.{refl, ◌∙◌}
use Rattle.pyr_bundle.specs.Parts.{datum_id}
use Rattle.pyr_bundle.proofs.Mapped.{one_more, all_made}
use Rattle.pyr_bundle.proofs.typing.datum_ids.Goals as goal

pub loop-number-preserved : goal.loop-number-preserved
loop-number-preserved c =
    one_more datum_id c.args.numbers.now c.loop-number.number-index 0 _ _ _ c.loop-number-test.true c.loop-number.invariant refl c.in_ok-push.ensures.items

pub returns : goal.returns
returns c =
    c.from_vec.ensures ∙ all_made datum_id c.args.numbers.now c.loop-number.number-index _ c.loop-number-test.false c.loop-number.invariant
