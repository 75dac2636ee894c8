use Rattle.std.proofs.Common.{◌≡◌, take}
use Rattle.std.specs.Prelude.{sum_by}
use Rattle.pyr_graph.specs.System.{cost_of}
use Rattle.pyr_merge.proofs.weighed.load_of.Given as goal

abbrev pub invariant-loop-task : goal.invariant-loop-task
invariant-loop-task l = l.load ≡ sum_by (λ t. cost_of l.graph t.0) (take l.task-index l.tasks)
