use Rattle.std.proofs.Common.{◌-◌, length, vec_len}
use Rattle.pyr_graph.specs.System.{task_numbers}
use Rattle.pyr_graph.proofs.OrderLemmas.{IsOrdering}
use Rattle.pyr_graph.proofs.order.take_out.Given as goal

-- the tasks that are out, those that wait and those that are ready
abbrev pub invariant-loop-task : goal.invariant-loop-task
invariant-loop-task l = IsOrdering l.predecessors (task_numbers l.order.items) l.pending l.ready

abbrev pub decreases-loop-task : goal.decreases-loop-task
decreases-loop-task l = length l.predecessors - vec_len l.order
