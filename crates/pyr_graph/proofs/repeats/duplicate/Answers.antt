use Rattle.pyr_graph.proofs.RepeatLemmas.{told, first_in-reads, first_in-writes, first_in-next}
use Rattle.pyr_graph.proofs.repeats.duplicate.Goals as goal

pub returns-in-Some : goal.returns-in-Some
returns-in-Some c =
    first_in-reads c.args.prints.now c.args.tasks.now c.loop-task.task-index c.task-item.result c.loop-task-test.true c.task-item.is c.loop-task.invariant
    c.in-Some.datum.0 (told _ _ _ _ c.in_ok-datum.ensures c.in-Some.is c.as_slice.ensures)

pub returns-in-Some-2 : goal.returns-in-Some-2
returns-in-Some-2 c =
    first_in-writes c.args.prints.now c.args.tasks.now c.loop-task.task-index c.task-item.result c.loop-task-test.true c.task-item.is c.loop-task.invariant
    c.in-Some-2.datum.0 (told _ _ _ _ c.in_ok-datum.ensures c.in_default.is c.as_slice.ensures) (told _ _ _ _ c.in_ok-datum-2.ensures c.in-Some-2.is c.as_slice-in-loop-task.ensures)

pub loop-task-preserved : goal.loop-task-preserved
loop-task-preserved c =
    first_in-next c.args.prints.now c.args.tasks.now c.loop-task.task-index c.task-item.result c.loop-task-test.true c.task-item.is c.loop-task.invariant
    (told _ _ _ _ c.in_ok-datum.ensures c.in_default.is c.as_slice.ensures) (told _ _ _ _ c.in_ok-datum-2.ensures c.in_default-2.is c.as_slice-in-loop-task.ensures)
