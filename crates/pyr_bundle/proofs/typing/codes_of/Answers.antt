use Rattle.std.proofs.Common.{map, ap, ◌∙◌}
use Rattle.pyr_bundle.specs.Parts.{instr_of}
use Rattle.pyr_bundle.proofs.Mapped.{one_more, all_made}
use Rattle.pyr_bundle.proofs.typing.codes_of.Goals as goal

pub loop-code-preserved : goal.loop-code-preserved
loop-code-preserved c =
    one_more (map instr_of) c.args.codes.now c.loop-code.code-index c.code-item.result _ _ _ c.loop-code-test.true c.loop-code.invariant (c.in_ok-instrs_of.ensures ∙ ap (map instr_of) (c.as_slice.ensures ∙ c.code-item.is)) c.in_ok-push.ensures.items

pub returns : goal.returns
returns c =
    c.from_vec.ensures ∙ all_made (map instr_of) c.args.codes.now c.loop-code.code-index _ c.loop-code-test.false c.loop-code.invariant
