use Rattle.std.proofs.Common.{List, ◌+◌, length, sym, ap, ◌∙◌, subst, arith}
use Rattle.std.proofs.lemmas.List.{with_items_is}
use Rattle.pyr_size.specs.Blocks.{noted}
use Rattle.pyr_size.specs.declared.blocks.Block.{Block}
use Rattle.pyr_size.proofs.Executed.{HasBlocks, blocks_more, all_blocks, exec_known}
use Rattle.pyr_size.proofs.blocks.blocks_of.Goals as goal

pub note_blocks-requires-clause-known : goal.note_blocks-requires-clause-known
note_blocks-requires-clause-known c = λ i t e.
    exec_known c.args.bundle.now c.loop-p.p c.code.result.now (length c.deref_mut.result.now) i t c.well_formed-2.ensures c.code.ensures
    (ap length c.deref_mut.ensures.value ∙ c.loop-p.invariant.count) e

pub loop-p-preserved : goal.loop-p-preserved
loop-p-preserved c =
    subst (HasBlocks c.args.bundle.now (c.loop-p.p + 1)) (sym (with_items_is c.loop-p.blocks c.note_blocks.new.blocks (c.note_blocks.auto.blocks ∙ c.deref_mut.ensures.len)))
    (blocks_more c.args.bundle.now c.loop-p.p c.code.result.now c.loop-p.blocks.items c.note_blocks.new.blocks c.well_formed-2.ensures c.code.ensures
    (c.note_blocks.ensures ∙ ap (λ (blocks : List Block). noted c.loop-p.p 0 c.code.result.now blocks) c.deref_mut.ensures.value) c.loop-p.invariant)

pub returns : goal.returns
returns c =
    all_blocks c.args.bundle.now c.loop-p.p c.loop-p.blocks.items c.well_formed-2.ensures
    (let count = c.processors-p-end.ensures in let low = c.loop-p-test.false in omega (arith, count, low)) c.loop-p.invariant
