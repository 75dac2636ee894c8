use Rattle.std.proofs.Common.{◌≡◌, ◌*◌, ◌≤◌, take}
use Rattle.pyr_graph.specs.System.{datum_numbers}
use Rattle.pyr_num.specs.declared.limits.TheConstants.Limits.{DELAY}
use Rattle.pyr_simul.proofs.DelayLemmas.{delays_among}
use Rattle.pyr_simul.proofs.simulating.delay_between.Given as goal

abbrev pub invariant-loop-datum : goal.invariant-loop-datum
invariant-loop-datum l = record {
  so_far : l.delay ≡ delays_among l.graph l.durations l.from.0 (take l.datum-index (datum_numbers l.datum-items));
  low : l.delay ≤ l.datum-index * DELAY;
}
