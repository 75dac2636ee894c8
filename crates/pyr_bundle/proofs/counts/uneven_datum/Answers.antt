use Rattle.std.proofs.Common.{◌∙◌, List, length, count_by, sym, ap, arith}
use Rattle.std.proofs.lemmas.List.{take_all}
use Rattle.pyr_bundle.specs.declared.raw_task.RawTask.{RawTask}
use Rattle.pyr_bundle.specs.Law.{IsKept}
use Rattle.pyr_bundle.specs.Laws.{is_written_by, writers}
use Rattle.pyr_bundle.proofs.Stamps.{moved}
use Rattle.pyr_bundle.proofs.AccessLemmas.{task_is, writes_fresh}
use Rattle.pyr_bundle.proofs.CountLemmas.{by_table}
use Rattle.pyr_bundle.proofs.counts.uneven_datum.Goals as goal

pub count_writes-requires-clause-fresh : goal.count_writes-requires-clause-fresh
count_writes-requires-clause-fresh c =
    let at = task_is c.args.raw.now.tasks _ c.loop-task.task-index c.task-item.result c.as_slice-task-items.ensures c.loop-task-test.true c.task-item.is in
    moved IsKept _ _ _ _ (sym (c.loop-task.auto.counts ∙ c.requires.full)) (ap (λ (t : RawTask). t.writes) at.1 ∙ sym c.as_slice.ensures) (writes_fresh c.args.raw.now c.loop-task.task-index c.requires.accesses at.0)

pub returns : goal.returns
unfolding writers
returns c =
    by_table _ c.loop-task.counts (λ d. count_by (is_written_by d) c.args.raw.now.tasks) _ (c.loop-task.auto.counts ∙ c.requires.full)
    (λ d l. c.loop-task.invariant d (let n = c.loop-task.auto.counts in let f = c.requires.full in omega arith)
    ∙ ap (λ (xs : List RawTask). count_by (is_written_by d) xs) (take_all c.loop-task.task-index c.args.raw.now.tasks (let n = ap length c.as_slice-task-items.ensures in omega arith)))
    c.first_not_one.ensures
