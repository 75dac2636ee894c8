use Rattle.std.proofs.Common.{length, get_or, arith}
use Rattle.pyr_num.specs.declared.ids.TaskId.{TaskId}
use Rattle.pyr_merge.proofs.MarkLemmas.{marked-twice, allowed-past, allowed-marked}
use Rattle.pyr_merge.proofs.partition.mark.Goals as goal
use Rattle.pyr_merge.proofs.partition.mark.Goals.{then-at-marked-via-then-at-marked, then-at-marked-via-else-at-marked+then-marked-at}

pub returns-then-at-marked-clause-no : goal.returns-then-at-marked-clause-no
returns-then-at-marked-clause-no c =
    let d : TaskId = record { 0 = 0 } in
    let n = length c.args.marked.now in
    let marked = c.loop-task.marked in
    let x = (get_or c.args.tasks.now c.loop-task.task-index d).0 in (
      x,
      marked-twice marked c.args.marked.now c.args.tasks.now c.loop-task.task-index d c.loop-task-test.true c.loop-task.auto.marked c.loop-task.invariant
          (elim c.then-at-marked.branch [
            | then-at-marked-via-then-at-marked w ↦ allowed-past n x _ (omega (arith, w.if-at-marked.true, c.loop-task.auto.marked))
            | then-at-marked-via-else-at-marked+then-marked-at w ↦ allowed-marked n x marked w.if-marked-at.true
          ]),
    )
