use Rattle.std.proofs.Common.{ap, ◌∙◌}
use Rattle.std.proofs.lemmas.Result.{on_ok_weaker}
use Rattle.pyr_code.proofs.SeenLemmas.{op_of-Push, op_of-Load, op_of-Store, op_of-Frame, op_of-Get, op_of-Put, op_of-Sel, loop_seen}
use Rattle.pyr_code.specs.Seen.{op_of}
use Rattle.pyr_bundletext.proofs.PrintingLemmas.{op_more, op_words_more, ops_all, op_words_all, op_written, op_spelled, loop_written}
use Rattle.pyr_bundletext.proofs.ops.+ops.Goals as goal

pub put_ops-loop-op-preserved : goal.put_ops-loop-op-preserved
put_ops-loop-op-preserved t c = record {
  text = op_more c.args.ops.now c.loop-op.op-index c.op-item.result _ _ _ c.loop-op-test.true c.op-item.is c.loop-op.invariant.text c.in_ok-put_op.ensures.text;
  words = op_words_more c.args.ops.now c.loop-op.op-index c.op-item.result _ c.loop-op-test.true c.op-item.is c.in_ok-put_op.ensures.words c.loop-op.invariant.words;
}

pub put_ops-returns : goal.put_ops-returns
put_ops-returns t c = record {
  text = ops_all c.args.ops.now c.loop-op.op-index _ _ c.loop-op-test.false c.loop-op.invariant.text;
  words = op_words_all c.args.ops.now c.loop-op.op-index _ c.loop-op-test.false c.loop-op.invariant.words;
}

pub put_op-returns-in_ok-put_ops-in-Loop-clause-text : goal.put_op-returns-in_ok-put_ops-in-Loop-clause-text
put_op-returns-in_ok-put_ops-in-Loop-clause-text t c =
    let is = loop_seen c.args.op.now c.in-Loop.local c.in-Loop.count c.in-Loop.turn _ c.in-Loop.is c.as_slice.ensures in
    on_ok_weaker _ (loop_written _ _ _ _ _ _ _ _ is c.in_ok-put_line-in-Loop.ensures.text c.in_ok-put_ops-in-Loop.ensures.text) c.put_line-in-Loop-2.ensures.text

pub put_op-returns-in_ok-put_ops-in-Loop-clause-words : goal.put_op-returns-in_ok-put_ops-in-Loop-clause-words
put_op-returns-in_ok-put_ops-in-Loop-clause-words t c =
    let is = loop_seen c.args.op.now c.in-Loop.local c.in-Loop.count c.in-Loop.turn _ c.in-Loop.is c.as_slice.ensures in
    let head = c.in_ok-put_line-in-Loop.ensures.words in
    op_spelled _ _ _ is (head.0, head.1.0, c.in_ok-put_ops-in-Loop.ensures.words)

pub put_op-returns-in-Push : goal.put_op-returns-in-Push
put_op-returns-in-Push t c =
    let is = ap op_of c.in-Push.is ∙ op_of-Push c.in-Push.word in
    record {
      text = on_ok_weaker _ (op_written _ _ _ _ is) c.put_line.ensures.text;
      words = op_spelled _ _ _ is c.put_line.ensures.words.0;
    }

pub put_op-returns-in-Load : goal.put_op-returns-in-Load
put_op-returns-in-Load t c =
    let is = ap op_of c.in-Load.is ∙ op_of-Load c.in-Load.local in
    record {
      text = on_ok_weaker _ (op_written _ _ _ _ is) c.put_line-in-Load.ensures.text;
      words = op_spelled _ _ _ is c.put_line-in-Load.ensures.words.0;
    }

pub put_op-returns-in-Store : goal.put_op-returns-in-Store
put_op-returns-in-Store t c =
    let is = ap op_of c.in-Store.is ∙ op_of-Store c.in-Store.local in
    record {
      text = on_ok_weaker _ (op_written _ _ _ _ is) c.put_line-in-Store.ensures.text;
      words = op_spelled _ _ _ is c.put_line-in-Store.ensures.words.0;
    }

pub put_op-returns-in-Get : goal.put_op-returns-in-Get
put_op-returns-in-Get t c =
    let is = ap op_of c.in-Get.is ∙ op_of-Get c.in-Get.slot in
    record {
      text = on_ok_weaker _ (op_written _ _ _ _ is) c.put_line-in-Get.ensures.text;
      words = op_spelled _ _ _ is c.put_line-in-Get.ensures.words.0;
    }

pub put_op-returns-in-Put : goal.put_op-returns-in-Put
put_op-returns-in-Put t c =
    let is = ap op_of c.in-Put.is ∙ op_of-Put c.in-Put.output in
    record {
      text = on_ok_weaker _ (op_written _ _ _ _ is) c.put_line-in-Put.ensures.text;
      words = op_spelled _ _ _ is c.put_line-in-Put.ensures.words.0;
    }

pub put_op-returns-in-Frame : goal.put_op-returns-in-Frame
put_op-returns-in-Frame t c =
    let is = ap op_of c.in-Frame.is ∙ op_of-Frame in
    record {
      text = on_ok_weaker _ (op_written _ _ _ _ is) c.put_line-in-Frame.ensures.text;
      words = op_spelled _ _ _ is tt;
    }

pub put_op-returns-in-Sel : goal.put_op-returns-in-Sel
put_op-returns-in-Sel t c =
    let is = ap op_of c.in-Sel.is ∙ op_of-Sel in
    record {
      text = on_ok_weaker _ (op_written _ _ _ _ is) c.put_line-in-Sel.ensures.text;
      words = op_spelled _ _ _ is tt;
    }
