use Rattle.std.proofs.Common.{◌≡◌, ◌*◌, ◌≤◌, take}
use Rattle.pyr_num.specs.declared.limits.TheConstants.Limits.{LENGTH}
use Rattle.pyr_graph.specs.System.{datum_numbers}
use Rattle.pyr_graphtext.specs.Running.{lengths_of}
use Rattle.pyr_graphtext.proofs.room.words_together.Given as goal

abbrev pub invariant-loop-datum : goal.invariant-loop-datum
invariant-loop-datum l = record {
  sum : l.words ≡ lengths_of l.graph (datum_numbers (take l.datum-index l.datums));
  few : l.words ≤ l.datum-index * LENGTH;
}
