use Rattle.std.proofs.Common.{◌≡◌, ◌<◌, length, get_or, Some, None, sym, ◌∙◌, arith}
use Rattle.pyr_bundle.specs.Laws.{is_exec}
use Rattle.pyr_bundle.specs.Tables.{executed}
use Rattle.pyr_bundle.specs.declared.raw_instr.RawInstr.TheVariants.{Recv}
use Rattle.pyr_bundle.proofs.CountLemmas.{tally_more, tally_same, tally_fits, exec_of, no_exec, exec_below}
use Rattle.pyr_bundle.proofs.counts.count_execs.Goals as goal
use Rattle.pyr_bundle.proofs.counts.count_execs.Goals.{in-Some, in_default}

pub overflow_add-counts : goal.overflow_add-counts
overflow_add-counts c =
    let is : executed (get_or c.args.code.now c.loop-instr.instr-index (Recv 0 0)) ≡ Some c.in-Some.task = sym c.executed.ensures ∙ c.in-Some.is in
    let low = exec_below _ _ _ is (c.requires.tasks c.loop-instr.instr-index (Recv 0 0) c.loop-instr-test.true) in
    tally_fits is_exec c.args.code.now c.loop-instr.instr-index (Recv 0 0) c.loop-instr.counts c.args.counts.now c.loop-instr-test.true c.loop-instr.invariant c.in-Some.task
    (let n = c.loop-instr.auto.counts in omega arith) (c.requires.few c.in-Some.task low)

pub loop-instr-preserved : goal.loop-instr-preserved
loop-instr-preserved c = λ t l.
    let low : t < length c.loop-instr.counts = (let n = c.match-executed.auto.counts in omega arith) in
    elim c.match-executed.branch [
      | in-Some w ↦ let is : executed (get_or c.args.code.now c.loop-instr.instr-index (Recv 0 0)) ≡ Some w.in-Some.task = sym c.executed.ensures ∙ w.in-Some.is in
          let inside = exec_below _ _ _ is (c.requires.tasks c.loop-instr.instr-index (Recv 0 0) c.loop-instr-test.true) in
          rw w.counts-is
          (tally_more is_exec c.args.code.now c.loop-instr.instr-index (Recv 0 0) c.loop-instr.counts c.args.counts.now c.loop-instr-test.true c.loop-instr.invariant w.in-Some.task
          (let n = c.loop-instr.auto.counts in omega arith) (λ k. exec_of _ _ k is) t low)
      | in_default w ↦ let is : executed (get_or c.args.code.now c.loop-instr.instr-index (Recv 0 0)) ≡ None = sym c.executed.ensures ∙ w.in_default.is in
          rw w.counts-is
          (tally_same is_exec c.args.code.now c.loop-instr.instr-index (Recv 0 0) c.loop-instr.counts c.args.counts.now c.loop-instr-test.true c.loop-instr.invariant (λ k. no_exec _ k is) t low)
    ]
