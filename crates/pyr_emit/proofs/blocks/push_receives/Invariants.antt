use Rattle.std.proofs.Common.{◌≡◌, ◌++◌, ◌&&◌, not, map, take}
use Rattle.std.specs.List.{filter}
use Rattle.pyr_graph.specs.System.{writer_of}
use Rattle.pyr_graph.specs.Placements.{same_processor}
use Rattle.pyr_emit.specs.Emission.{receive_of, data_read}
use Rattle.pyr_emit.specs.Marks.{is_marked}
use Rattle.pyr_emit.proofs.blocks.push_receives.Given as goal

abbrev pub invariant-loop-datum : goal.invariant-loop-datum
invariant-loop-datum l =
    l.code.items ≡ l.fn.code.items ++ map (receive_of l.graph l.placement)
    (filter (λ d. not (same_processor l.placement (writer_of l.graph d) l.fn.task.0) && not (is_marked l.known d))
    (take l.datum-index (data_read l.graph l.fn.task.0)))
