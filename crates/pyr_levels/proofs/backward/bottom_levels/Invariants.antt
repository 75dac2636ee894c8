use Rattle.pyr_graph.specs.System.{task_numbers}
use Rattle.pyr_levels.specs.Levels.{weighed_graph}
use Rattle.pyr_levels.proofs.BackwardLemmas.{IsDoneFrom}
use Rattle.pyr_levels.proofs.backward.bottom_levels.Given as goal

abbrev pub invariant-loop-place : goal.invariant-loop-place
invariant-loop-place g l = IsDoneFrom l.graph (weighed_graph l.graph (g.W.Weighing.left l.weighing)) (task_numbers l.order) l.place l.levels.items
