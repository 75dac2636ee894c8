use Rattle.std.proofs.Common.{◌≡◌, ℕ, ◌<◌, None, length, unwrap_or, slice_index, slice_index_or}
use Rattle.pyr_graph.specs.System.{cost_of}
use Rattle.pyr_simul.proofs.reading.times_of.Given as goal

-- the times of the tasks before this number
abbrev pub invariant-loop-task : goal.invariant-loop-task
invariant-loop-task l = record {
  full : length l.times.items ≡ l.task;
  each : (t : ℕ) → t < l.task → slice_index l.times.items t ≡ unwrap_or (slice_index_or l.given t None) (cost_of l.graph t);
}
