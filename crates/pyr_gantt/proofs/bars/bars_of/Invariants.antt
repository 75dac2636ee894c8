use Rattle.pyr_graph.specs.Numbers.{numbers}
use Rattle.pyr_gantt.specs.Bars.{AreDrawn}
use Rattle.pyr_gantt.proofs.bars.bars_of.Given as goal

abbrev pub invariant-loop-task : goal.invariant-loop-task
invariant-loop-task l = AreDrawn l.placement l.plan (numbers l.task) l.columns.items
