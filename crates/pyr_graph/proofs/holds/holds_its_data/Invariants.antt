use Rattle.std.proofs.Common.{◌<◌, length, take}
use Rattle.std.specs.Prelude.{All}
use Rattle.pyr_graph.proofs.holds.holds_its_data.Given as goal

-- the tasks so far name these data alone
abbrev pub invariant-loop-task : goal.invariant-loop-task
invariant-loop-task l =
    All (λ t. All (λ d. d.0 < length l.datums) t.reads × All (λ d. d.0 < length l.datums) t.writes) (take l.task-index l.tasks)
