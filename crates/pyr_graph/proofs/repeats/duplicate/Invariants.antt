use Rattle.std.proofs.Common.{◌≡◌, drop}
use Rattle.pyr_graph.proofs.RepeatLemmas.{first_in}
use Rattle.pyr_graph.proofs.repeats.duplicate.Given as goal

-- what is left of the tasks has the first datum that stands twice in one list
abbrev pub invariant-loop-task : goal.invariant-loop-task
invariant-loop-task l = first_in l.prints (drop l.task-index l.tasks) ≡ first_in l.prints l.tasks
