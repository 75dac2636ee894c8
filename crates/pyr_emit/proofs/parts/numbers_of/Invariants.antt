use Rattle.std.proofs.Common.{◌≡◌, take}
use Rattle.pyr_graph.specs.System.{datum_numbers}
use Rattle.pyr_emit.proofs.parts.numbers_of.Given as goal

abbrev pub invariant-loop-datum : goal.invariant-loop-datum
invariant-loop-datum l = l.numbers.items ≡ datum_numbers (take l.datum-index l.datums)
