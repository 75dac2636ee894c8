use Rattle.std.proofs.Common.{ℕ, ◌+◌, ◌<◌, List, length, take, sym, ◌∙◌, subst, arith}
use Rattle.std.proofs.lemmas.List.{get_or-map, length-map, with_items_is}
use Rattle.pyr_num.specs.declared.ids.TaskId.{TaskId}
use Rattle.pyr_graph.specs.System.{task_numbers}
use Rattle.pyr_emit.specs.Marks.{AreMarks}
use Rattle.pyr_emit.proofs.MarkLemmas.{marks_more, marks_same}
use Rattle.pyr_emit.proofs.BlockLemmas.{block_same, code_yes, code_no}
use Rattle.pyr_emit.proofs.codes.code_on.Goals as goal
use Rattle.pyr_emit.proofs.codes.code_on.Goals.{then-processor_of-processor+in_ok-push_block, else-processor_of-processor}

pub loop-task-preserved : goal.loop-task-preserved
loop-task-preserved c =
    let s = c.args.graph.now in
    let placement = c.args.placement.now in
    let numbers : List ℕ = task_numbers c.args.order.now in
    let p : ℕ = c.args.processor in
    let i : ℕ = c.loop-task.task-index in
    let inside : i < length numbers = let n = length-map c.args.order.now (λ (t : TaskId). t.0) in let less = c.loop-task-test.true in omega (arith, n, less) in
    let here = sym (get_or-map (λ (t : TaskId). t.0) c.args.order.now i (record { 0 = 0 }) 0 c.loop-task-test.true) in
    elim c.if-processor_of-processor.branch [
      | then-processor_of-processor+in_ok-push_block w ↦
          let on = sym c.processor_of.ensures ∙ w.if-processor_of-processor.true in
          let new = w.mark.new.marks in
          let was = subst (AreMarks s placement (take i numbers) p) (sym w.deref_mut.ensures.value) c.loop-task.invariant.marks in
          let is = marks_more s placement numbers i _ p inside here w.deref_mut.result.now new w.reads.result.now on w.reads.ensures w.mark.auto.marks w.mark.ensures was in
          let known = subst (AreMarks s placement (take i numbers) p) (sym w.deref.ensures.value) c.loop-task.invariant.marks in
          let block = block_same s placement numbers i w.deref.result.now c.args.readers.now _ here (subst (λ q. AreMarks s placement (take i numbers) q w.deref.result.now) (sym on) known) c.requires.readers in
          rw (w.code-is, w.known-is) (record {
            marks = subst (AreMarks s placement (take (i + 1) numbers) p) (sym (with_items_is c.loop-task.known new (w.mark.auto.marks ∙ w.deref_mut.ensures.len))) is;
            blocks = code_yes s placement numbers i p _ here c.loop-task.code.items w.push_block.new.code.items _ on c.loop-task.invariant.blocks block w.in_ok-push_block.ensures;
          })
      | else-processor_of-processor w ↦
          rw (w.code-is, w.known-is) (record {
            marks = marks_same s placement numbers i _ p inside here c.loop-task.known.items (λ e. w.if-processor_of-processor.false (c.processor_of.ensures ∙ e)) c.loop-task.invariant.marks;
            blocks = code_no s placement numbers i p _ here c.loop-task.code.items (λ e. w.if-processor_of-processor.false (c.processor_of.ensures ∙ e)) c.loop-task.invariant.blocks;
          })
    ]
