use Rattle.std.proofs.Common.{◌≡◌, ℕ, ap, add-one, arith, ◌∙◌, length}
use Rattle.std.specs.Prelude.{◌&&◌, nat_le, nat_lt}
use Rattle.pyr_gantt.specs.Gantt.{runs_in}
use Rattle.pyr_gantt.proofs.NumberLemmas.{written}
use Rattle.pyr_gantt.proofs.DrawnLemmas.{AreDrawn-step}
use Rattle.pyr_gantt.proofs.bars.bars_of.Goals as goal

pub loop-task-preserved : goal.loop-task-preserved
loop-task-preserved c =
    let first = rw (c.as_slice.ensures, c.requires.time) at c.first_column-first.ensures.columns in
    let end = rw (c.as_slice-in-loop-task.ensures, c.requires.time) at c.end_column-end.ensures.columns in
    let columns : (k : ℕ) → runs_in c.args.plan.now k c.loop-task.task ≡ (nat_le c.first_column-first.result k && nat_lt k c.end_column-end.result) = λ k. rw (first k, end k) in
    let full : length c.mark.new.columns ≡ length c.loop-task.columns.items = c.mark.auto.columns ∙ ap length c.deref_mut.ensures.value in
    let whole : length c.mark.new.columns ≡ c.loop-task.columns.len = omega (arith, c.mark.auto.columns, c.deref_mut.ensures.len) in
    rw (written c.loop-task.columns.len c.mark.new.columns c.loop-task.columns.items whole, add-one)
    (AreDrawn-step c.args.placement.now c.args.plan.now c.loop-task.task c.first_column-first.result c.end_column-end.result columns c.end_column-end.ensures.within
    c.loop-task.columns.items c.mark.new.columns full (rw (c.deref_mut.ensures.value, c.as_slice-processor-items.ensures) at c.mark.ensures) c.loop-task.invariant)
