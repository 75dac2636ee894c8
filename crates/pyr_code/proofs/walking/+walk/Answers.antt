use Rattle.std.proofs.Common.{rules, ◌≡◌, ◌+◌, ◌∷◌, drop, sym, ap, ◌∙◌, arith}
use Rattle.std.specs.Prelude.{List, None, Err}
use Rattle.std.specs.Result.{result_err}
use Rattle.pyr_code.specs.Seen.{op_of, code_of}
use Rattle.pyr_code.specs.Tree.{Loop}
use Rattle.pyr_code.specs.declared.op.Op.{Op}
use Rattle.pyr_code.specs.Size.{code_nodes}
use Rattle.pyr_code.specs.Height.{height_after}
use Rattle.pyr_code.specs.Fault.{kind_before}
use Rattle.pyr_code.proofs.SeenLemmas.{loop_seen}
use Rattle.pyr_code.proofs.WalkLemmas.{drop-item, step_err, step_ok, loop_err, loop_end}
use Rattle.pyr_code.proofs.walking.+walk.Goals as goal

pub walk_op-returns-in_err-end-in-Loop-clause-fault : goal.walk_op-returns-in_err-end-in-Loop-clause-fault
walk_op-returns-in_err-end-in-Loop-clause-fault t c =
    let e : c.from_residual.result ≡ Err c.in_err-end-in-Loop.field-0.0 = search rules in
    let k : kind_before c.args.shape (op_of c.args.op.now) c.args.start.height ≡ None = search rules in
    let is : op_of c.args.op.now ≡ Loop c.in-Loop.field-0 c.in-Loop.field-1 (code_of c.as_slice.result.now) = loop_seen _ _ _ _ _ c.in-Loop.is c.as_slice.ensures in
    ap result_err e ∙ sym (loop_err c.args.shape _ _ _ _ c.args.start.place c.args.start.height _ is k c.in_err-end-in-Loop.ensures.fault)

pub walk_op-returns-in_err-expect_height-in-Loop-clause-fault : goal.walk_op-returns-in_err-expect_height-in-Loop-clause-fault
walk_op-returns-in_err-expect_height-in-Loop-clause-fault t c =
    let e : c.from_residual-in_err-expect_height-in-Loop.result ≡ Err c.in_err-expect_height-in-Loop.field-0.0 = search rules in
    let k : kind_before c.args.shape (op_of c.args.op.now) c.args.start.height ≡ None = search rules in
    let is : op_of c.args.op.now ≡ Loop c.in-Loop.field-0 c.in-Loop.field-1 (code_of c.as_slice.result.now) = loop_seen _ _ _ _ _ c.in-Loop.is c.as_slice.ensures in
    ap result_err e
    ∙ c.in_err-expect_height-in-Loop.ensures
    ∙ loop_end c.args.shape _ _ _ _ c.args.start.place c.args.start.height c.in_ok-end-in-Loop.end.height is k c.in_ok-end-in-Loop.ensures.fault c.in_ok-end-in-Loop.ensures.height

pub walk_op-returns-in_ok-expect_height-in-Loop-clause-fault : goal.walk_op-returns-in_ok-expect_height-in-Loop-clause-fault
walk_op-returns-in_ok-expect_height-in-Loop-clause-fault t c =
    let k : kind_before c.args.shape (op_of c.args.op.now) c.args.start.height ≡ None = search rules in
    let is : op_of c.args.op.now ≡ Loop c.in-Loop.field-0 c.in-Loop.field-1 (code_of c.as_slice.result.now) = loop_seen _ _ _ _ _ c.in-Loop.is c.as_slice.ensures in
    c.in_ok-expect_height-in-Loop.ensures
    ∙ loop_end c.args.shape _ _ _ _ c.args.start.place c.args.start.height c.in_ok-end-in-Loop.end.height is k c.in_ok-end-in-Loop.ensures.fault c.in_ok-end-in-Loop.ensures.height

pub walk_ops-returns-in_err-reached-clause-fault : goal.walk_ops-returns-in_err-reached-clause-fault
walk_ops-returns-in_err-reached-clause-fault t c =
    let e : c.from_residual.result ≡ Err c.in_err-reached.field-0.0 = search rules in
    ap result_err e
    ∙ sym (c.loop-op.invariant.fault
    ∙ step_err c.args.shape _ _ c.op-item.result _ _ _ (drop-item c.args.ops.now c.loop-op.op-index c.op-item.result c.loop-op-test.true c.op-item.is) c.in_err-reached.ensures.fault)

pub walk_ops-loop-op-preserved : goal.walk_ops-loop-op-preserved
walk_ops-loop-op-preserved t c =
    let is : drop c.loop-op.op-index c.args.ops.now ≡ c.op-item.result ∷ drop (c.loop-op.op-index + 1) c.args.ops.now =
    drop-item c.args.ops.now c.loop-op.op-index c.op-item.result c.loop-op-test.true c.op-item.is in
    record {
      fault = c.loop-op.invariant.fault ∙ step_ok c.args.shape _ _ c.op-item.result _ _ _ _ is c.in_ok-reached.ensures.fault c.in_ok-reached.ensures.place c.in_ok-reached.ensures.height;
      place = omega (arith, ap (λ (x : List Op). code_nodes (code_of x)) is, c.in_ok-reached.ensures.place, c.loop-op.invariant.place);
      height = ap (height_after (code_of (drop (c.loop-op.op-index + 1) c.args.ops.now))) c.in_ok-reached.ensures.height
          ∙ sym (ap (λ (x : List Op). height_after (code_of x) c.loop-op.reached.height) is)
          ∙ c.loop-op.invariant.height;
      low = c.in_ok-reached.ensures.low;
    }
