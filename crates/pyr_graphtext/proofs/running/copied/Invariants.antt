use Rattle.std.proofs.Common.{◌≡◌, take}
use Rattle.pyr_graph.specs.System.{datum_numbers}
use Rattle.pyr_graphtext.specs.Running.{inputs_from}
use Rattle.pyr_graphtext.proofs.running.copied.Given as goal

abbrev pub invariant-loop-datum : goal.invariant-loop-datum
invariant-loop-datum l =
    l.lists.items ≡ inputs_from l.table (datum_numbers (take l.datum-index l.datums))
