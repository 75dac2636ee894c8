use Rattle.std.proofs.Common.{◌≡◌, map}
use Rattle.std.specs.List.{range_with_len}
use Rattle.pyr_graph.specs.System.{task_numbers}
use Rattle.pyr_emit.specs.Emission.{code_on}
use Rattle.pyr_emit.proofs.codes.codes_of.Given as goal

abbrev pub invariant-loop-processor : goal.invariant-loop-processor
invariant-loop-processor l =
    l.codes.items ≡ map (code_on l.graph l.placement (task_numbers l.order)) (range_with_len 0 l.processor)
