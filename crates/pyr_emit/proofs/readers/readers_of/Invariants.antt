use Rattle.std.proofs.Common.{◌≡◌, ℕ, ◌<◌, length}
use Rattle.pyr_graph.specs.System.{task_numbers}
use Rattle.pyr_emit.specs.Marks.{AreMarks, marks_of}
use Rattle.pyr_emit.proofs.readers.readers_of.Given as goal

abbrev pub invariant-loop-processor : goal.invariant-loop-processor
invariant-loop-processor l = record {
  rows_so_far : length l.readers.items ≡ l.processor;
  marks : (q : ℕ) → q < l.processor → AreMarks l.graph l.placement (task_numbers l.order) q (marks_of l.readers.items q);
}
