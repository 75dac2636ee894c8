use Rattle.std.proofs.Common.{◌≡◌, take}
use Rattle.pyr_graphtext.specs.Finishing.{names_of}
use Rattle.pyr_graphtext.proofs.whole_fault.task_names.Given as goal

-- the names of the tasks so far
abbrev pub invariant-loop-task : goal.invariant-loop-task
invariant-loop-task l = l.list.items ≡ names_of l.names (take l.task-index l.tasks)
