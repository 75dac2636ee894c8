use Rattle.std.proofs.Common.{◌≡◌, ◌++◌}
use Rattle.std.specs.List.{flat_map}
use Rattle.pyr_graph.specs.Numbers.{numbers}
use Rattle.pyr_gantt.specs.Gantt.{task_line}
use Rattle.pyr_gantt.proofs.chart.put_tasks.Given as goal

abbrev pub invariant-loop-task : goal.invariant-loop-task
invariant-loop-task l = l.text.items ≡ l.initial.text.items ++ flat_map (task_line l.program l.placement l.plan) (numbers l.task)
