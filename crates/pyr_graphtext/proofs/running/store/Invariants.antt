use Rattle.std.proofs.Common.{◌≡◌, length, drop}
use Rattle.pyr_graph.specs.System.{datum_numbers}
use Rattle.pyr_graphtext.specs.Running.{stored}
use Rattle.pyr_graphtext.proofs.running.store.Given as goal

abbrev pub invariant-loop-output : goal.invariant-loop-output
invariant-loop-output l = record {
  full : length l.table ≡ length l.initial.table;
  left : stored (datum_numbers (drop l.output l.datums)) (drop l.output l.cells.outputs) l.table ≡ stored (datum_numbers l.datums) l.cells.outputs l.initial.table;
}
