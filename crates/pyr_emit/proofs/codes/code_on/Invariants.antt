use Rattle.std.proofs.Common.{◌≡◌, take}
use Rattle.std.specs.Prelude.{nat_eq, slice_index}
use Rattle.std.specs.List.{filter, flat_map, range_with_len}
use Rattle.pyr_graph.specs.System.{task_numbers}
use Rattle.pyr_graph.specs.Placements.{processor_of}
use Rattle.pyr_emit.specs.Emission.{block_at}
use Rattle.pyr_emit.specs.Marks.{AreMarks}
use Rattle.pyr_emit.proofs.codes.code_on.Given as goal

abbrev pub invariant-loop-task : goal.invariant-loop-task
invariant-loop-task l = record {
  marks : AreMarks l.graph l.placement (take l.task-index (task_numbers l.order)) l.processor l.known.items;
  blocks : l.code.items ≡ flat_map (block_at l.graph l.placement (task_numbers l.order))
      (filter (λ i. nat_eq (processor_of l.placement (slice_index (task_numbers l.order) i)) l.processor) (range_with_len 0 l.task-index));
}
