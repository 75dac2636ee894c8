use Rattle.std.proofs.Common.{List, [], ◌∷◌, ◌++◌, take, sym, ap, ◌∙◌}
use Rattle.std.proofs.lemmas.List.{take_more, take_all}
use Rattle.pyr_code.specs.declared.op.Op.{Op as OpValue}
use Rattle.pyr_code.specs.declared.op.Op.TheVariants.{Loop}
use Rattle.pyr_code.proofs.copying.+copy.Goals as goal

pub copy_ops-loop-op-preserved : goal.copy_ops-loop-op-preserved
copy_ops-loop-op-preserved t c =
    let ops = c.args.ops.now in
    c.in_ok-push.ensures.items ∙ ap (λ (xs : List OpValue). xs ++ c.in_ok-copy_op.field-0 ∷ []) c.loop-op.invariant
    ∙ ap (λ (x : OpValue). take c.loop-op.op-index ops ++ x ∷ []) (c.in_ok-copy_op.ensures ∙ c.op-item.is)
    ∙ sym (take_more ops c.loop-op.op-index c.op-item.result c.loop-op-test.true)

pub copy_ops-returns : goal.copy_ops-returns
copy_ops-returns t c =
    c.loop-op.invariant ∙ take_all c.loop-op.op-index c.args.ops.now c.loop-op-test.false

pub copy_op-returns-in_ok-turn-in-Loop : goal.copy_op-returns-in_ok-turn-in-Loop
copy_op-returns-in_ok-turn-in-Loop t c =
    ap (Loop c.in-Loop.local c.in-Loop.count) (c.from_vec.ensures ∙ c.in_ok-turn-in-Loop.ensures ∙ c.as_slice.ensures) ∙ sym c.in-Loop.is
