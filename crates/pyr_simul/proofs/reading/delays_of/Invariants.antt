use Rattle.std.proofs.Common.{◌≡◌, ℕ, ◌<◌, None, length, unwrap_or, slice_index, slice_index_or}
use Rattle.pyr_graph.specs.System.{comm_of}
use Rattle.pyr_simul.proofs.reading.delays_of.Given as goal

-- the delays of the data before this number
abbrev pub invariant-loop-datum : goal.invariant-loop-datum
invariant-loop-datum l = record {
  full : length l.delays.items ≡ l.datum;
  each : (x : ℕ) → x < l.datum → slice_index l.delays.items x ≡ unwrap_or (slice_index_or l.given x None) (comm_of l.graph x);
}
