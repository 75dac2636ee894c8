use Rattle.std.proofs.Common.{◌≡◌, take}
use Rattle.pyr_simul.proofs.reading.task_table.Given as goal

-- the names before this number
abbrev pub invariant-loop-task : goal.invariant-loop-task
invariant-loop-task l = l.table ≡ take l.task l.program.task_names
