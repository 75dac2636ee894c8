use Rattle.std.proofs.Common.{◌∙◌}
use Rattle.pyr_bundle.specs.declared.raw_instr.RawInstr.TheVariants.{Recv}
use Rattle.pyr_bundle.specs.Parts.{instr_of}
use Rattle.pyr_bundle.proofs.Mapped.{one_more, all_made}
use Rattle.pyr_bundle.proofs.typing.instrs_of.Goals as goal

pub loop-instr-preserved : goal.loop-instr-preserved
loop-instr-preserved c =
    one_more instr_of c.args.code.now c.loop-instr.instr-index (Recv 0 0) _ _ _ c.loop-instr-test.true c.loop-instr.invariant c.instr_of.ensures c.in_ok-push.ensures.items

pub instr_of-requires : goal.instr_of-requires
instr_of-requires c = c.requires c.loop-instr.instr-index _ c.loop-instr-test.true

pub returns : goal.returns
returns c =
    c.from_vec.ensures ∙ all_made instr_of c.args.code.now c.loop-instr.instr-index _ c.loop-instr-test.false c.loop-instr.invariant
