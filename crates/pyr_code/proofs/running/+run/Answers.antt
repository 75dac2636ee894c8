use Rattle.std.proofs.Common.{◌<◌, length, sym, ap, ◌∙◌, subst, arith}
use Rattle.std.proofs.lemmas.List.{length-append}
use Rattle.pyr_num.specs.Cells.{CellLists}
use Rattle.pyr_code.specs.Tree.{Op}
use Rattle.pyr_code.specs.Seen.{op_of}
use Rattle.pyr_code.specs.WellFormed.{IsFineOp}
use Rattle.pyr_code.proofs.SeenLemmas.{op_of-Get}
use Rattle.pyr_code.proofs.RunLemmas.{so_far_more, so_far_all}
use Rattle.pyr_code.proofs.Lengths.{length-with_word}
use Rattle.pyr_code.proofs.running.+run.Goals as goal

pub run_op-returns-in-Put-clause-count : goal.run_op-returns-in-Put-clause-count
run_op-returns-in-Put-clause-count g t c = ap (λ (v : CellLists). length v.outputs) c.put.ensures ∙ length-with_word _ _ _ _

pub run_op-get-requires : goal.run_op-get-requires
run_op-get-requires g t c =
    let v = c.args.cells.now in
    let is = ap op_of c.in-Get.is ∙ op_of-Get c.in-Get.slot in
    let fine = subst (λ (o : Op). IsFineOp (length v.inputs) (length v.outputs) (length c.args.locals.now) o (length c.args.stack.now)) is c.requires.fine in
    subst (λ n. c.in-Get.slot < n) (sym (length-append v.inputs v.outputs)) fine.0

pub run_ops-loop-op-preserved : goal.run_ops-loop-op-preserved
run_ops-loop-op-preserved g t c =
    let one = c.run_op.ensures in
    so_far_more c.args.frame c.args.ops.now c.loop-op.op-index c.op-item.result _ _ _ c.loop-op.stack c.loop-op.locals c.loop-op.cells _ _ _ _ c.loop-op.steps _ c.loop-op-test.true c.op-item.is c.loop-op.invariant one.state one.height one.rest one.count one.work c.run_op.auto.locals

pub run_ops-returns : goal.run_ops-returns
run_ops-returns g t c =
    let all = so_far_all c.args.frame c.args.ops.now c.loop-op.op-index _ _ _ c.loop-op.stack c.loop-op.locals c.loop-op.cells _ c.loop-op.steps c.loop-op-test.false c.loop-op.invariant in
    let work = all.work in
    record {
      state = sym all.state;
      height = all.height;
      rest = all.kept.rest;
      count = all.kept.count;
      work = omega arith;
    }
