use Rattle.std.proofs.Common.{take}
use Rattle.pyr_graph.specs.System.{task_numbers}
use Rattle.pyr_emit.specs.Marks.{AreMarks}
use Rattle.pyr_emit.proofs.readers.marks_on.Given as goal

abbrev pub invariant-loop-task : goal.invariant-loop-task
invariant-loop-task l =
    AreMarks l.graph l.placement (take l.task-index (task_numbers l.order)) l.processor l.marks.items
