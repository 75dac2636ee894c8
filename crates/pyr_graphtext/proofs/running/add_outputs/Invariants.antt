use Rattle.std.proofs.Common.{◌≡◌, take}
use Rattle.pyr_graph.specs.System.{datum_numbers}
use Rattle.pyr_graphtext.specs.Running.{zeros_for}
use Rattle.pyr_graphtext.proofs.running.add_outputs.Given as goal

abbrev pub invariant-loop-datum : goal.invariant-loop-datum
invariant-loop-datum l =
    l.cells ≡ record l.initial.cells { outputs = zeros_for l.graph (datum_numbers (take l.datum-index l.datums)) }
