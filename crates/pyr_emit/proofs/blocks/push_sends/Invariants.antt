use Rattle.std.proofs.Common.{◌≡◌, ◌++◌, take}
use Rattle.std.specs.List.{flat_map}
use Rattle.pyr_emit.specs.Emission.{data_written}
use Rattle.pyr_emit.specs.Marks.{marked_sends_of}
use Rattle.pyr_emit.proofs.blocks.push_sends.Given as goal

abbrev pub invariant-loop-datum : goal.invariant-loop-datum
invariant-loop-datum l =
    l.code.items ≡ l.fn.code.items ++ flat_map (marked_sends_of l.readers l.home) (take l.datum-index (data_written l.graph l.fn.task.0))
