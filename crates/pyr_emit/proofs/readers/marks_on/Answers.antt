use Rattle.std.proofs.Common.{ℕ, ◌+◌, ◌<◌, length, take, sym, ◌∙◌, subst, arith}
use Rattle.std.proofs.lemmas.List.{get_or-map, length-map, with_items_is}
use Rattle.pyr_num.specs.declared.ids.TaskId.{TaskId}
use Rattle.pyr_graph.specs.System.{task_numbers}
use Rattle.pyr_emit.specs.Marks.{AreMarks}
use Rattle.pyr_emit.proofs.MarkLemmas.{marks_more, marks_same}
use Rattle.pyr_emit.proofs.readers.marks_on.Goals as goal
use Rattle.pyr_emit.proofs.readers.marks_on.Goals.{then-processor_of-processor, else-processor_of-processor}

pub loop-task-preserved : goal.loop-task-preserved
loop-task-preserved c =
    let order = c.args.order.now in
    let i : ℕ = c.loop-task.task-index in
    let inside : i < length (task_numbers order) = let n = length-map order (λ (t : TaskId). t.0) in let less = c.loop-task-test.true in omega (arith, n, less) in
    let here = sym (get_or-map (λ (t : TaskId). t.0) order i (record { 0 = 0 }) 0 c.loop-task-test.true) in
    elim c.if-processor_of-processor.branch [
      | then-processor_of-processor w ↦
          let s = c.args.graph.now in
          let placement = c.args.placement.now in
          let new = w.mark.new.marks in
          let was = subst (AreMarks s placement (take i (task_numbers order)) c.args.processor) (sym w.deref_mut.ensures.value) c.loop-task.invariant in
          let is = marks_more s placement (task_numbers order) i _ c.args.processor inside here w.deref_mut.result.now new w.reads.result.now
          (sym c.processor_of.ensures ∙ w.if-processor_of-processor.true) w.reads.ensures w.mark.auto.marks w.mark.ensures was in
          rw w.marks-is (subst (AreMarks s placement (take (i + 1) (task_numbers order)) c.args.processor) (sym (with_items_is c.loop-task.marks new (w.mark.auto.marks ∙ w.deref_mut.ensures.len))) is)
      | else-processor_of-processor w ↦ rw w.marks-is (marks_same c.args.graph.now c.args.placement.now (task_numbers order) i _ c.args.processor inside here c.loop-task.marks.items
          (λ e. w.if-processor_of-processor.false (c.processor_of.ensures ∙ e)) c.loop-task.invariant)
    ]
