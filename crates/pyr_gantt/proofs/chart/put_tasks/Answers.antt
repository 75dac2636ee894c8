use Rattle.std.proofs.Common.{append_assoc}
use Rattle.std.specs.List.{flat_map}
use Rattle.pyr_graph.specs.Numbers.{numbers}
use Rattle.pyr_gantt.specs.Gantt.{task_line}
use Rattle.pyr_gantt.proofs.NumberLemmas.{lines_more}
use Rattle.pyr_gantt.proofs.chart.put_tasks.Goals as goal

pub loop-task-preserved : goal.loop-task-preserved
loop-task-preserved c =
    let line = task_line c.args.program.now c.args.placement.now c.args.plan.now in
    let task = c.loop-task.task in
    rw (lines_more line task, c.in_ok-put_task.ensures, c.loop-task.invariant) (append_assoc c.args.text.now.items (flat_map line (numbers task)) (line task))
