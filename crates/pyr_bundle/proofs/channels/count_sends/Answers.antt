use Rattle.std.proofs.Common.{◌≡◌, ◌<◌, length, get_or, Some, None, sym, ◌∙◌, arith}
use Rattle.pyr_bundle.specs.Laws.{is_send_to}
use Rattle.pyr_bundle.specs.Tables.{sent}
use Rattle.pyr_bundle.specs.declared.raw_instr.RawInstr.TheVariants.{Recv}
use Rattle.pyr_bundle.proofs.CountLemmas.{tally_more, tally_same, tally_fits, send_of, no_send, send_below}
use Rattle.pyr_bundle.proofs.channels.count_sends.Goals as goal
use Rattle.pyr_bundle.proofs.channels.count_sends.Goals.{in-Some, in_default}

pub overflow_add-counts : goal.overflow_add-counts
overflow_add-counts c =
    let is : sent (get_or c.args.code.now c.loop-instr.instr-index (Recv 0 0)) ≡ Some (c.in-Some.to, c.in-Some.field-0-1) = sym c.sent.ensures ∙ c.in-Some.is in
    let low = send_below _ _ _ is (c.requires.below c.loop-instr.instr-index (Recv 0 0) c.loop-instr-test.true) in
    tally_fits is_send_to c.args.code.now c.loop-instr.instr-index (Recv 0 0) c.loop-instr.counts c.args.counts.now c.loop-instr-test.true c.loop-instr.invariant c.in-Some.to
    (let n = c.loop-instr.auto.counts in omega arith) (c.requires.few c.in-Some.to low)

pub loop-instr-preserved : goal.loop-instr-preserved
loop-instr-preserved c = λ t l.
    let low : t < length c.loop-instr.counts = (let n = c.match-sent.auto.counts in omega arith) in
    elim c.match-sent.branch [
      | in-Some w ↦ let is : sent (get_or c.args.code.now c.loop-instr.instr-index (Recv 0 0)) ≡ Some (w.in-Some.to, w.in-Some.field-0-1) = sym c.sent.ensures ∙ w.in-Some.is in
          let inside = send_below _ _ _ is (c.requires.below c.loop-instr.instr-index (Recv 0 0) c.loop-instr-test.true) in
          rw w.counts-is
          (tally_more is_send_to c.args.code.now c.loop-instr.instr-index (Recv 0 0) c.loop-instr.counts c.args.counts.now c.loop-instr-test.true c.loop-instr.invariant w.in-Some.to
          (let n = c.loop-instr.auto.counts in omega arith) (λ k. send_of _ _ k is) t low)
      | in_default w ↦ let is : sent (get_or c.args.code.now c.loop-instr.instr-index (Recv 0 0)) ≡ None = sym c.sent.ensures ∙ w.in_default.is in
          rw w.counts-is
          (tally_same is_send_to c.args.code.now c.loop-instr.instr-index (Recv 0 0) c.loop-instr.counts c.args.counts.now c.loop-instr-test.true c.loop-instr.invariant (λ k. no_send _ k is) t low)
    ]
