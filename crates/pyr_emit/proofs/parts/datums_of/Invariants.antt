use Rattle.std.proofs.Common.{◌≡◌, map}
use Rattle.std.specs.List.{range_with_len}
use Rattle.pyr_emit.specs.Emission.{datum_of}
use Rattle.pyr_emit.proofs.parts.datums_of.Given as goal

abbrev pub invariant-loop-datum : goal.invariant-loop-datum
invariant-loop-datum l = l.datums.items ≡ map (datum_of l.program) (range_with_len 0 l.datum)
