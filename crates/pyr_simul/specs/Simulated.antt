-- The times of a plan with other durations, as path sums. They know no events.
use Rattle.std.specs.Prelude.{◌≡◌, ℕ, ◌+◌, ◌<◌, if◌then◌else◌, List, length, slice_index, nat_eq, filter, sum_by}
use Rattle.std.specs.List.{list_any}
use Rattle.pyr_graph.specs.declared.placement.Placement.{Placement}
use Rattle.pyr_graph.specs.System.{System, task_count, reads_of, writes_of}
use Rattle.pyr_levels.specs.Path.{Weighted, IsTlevel}
use Rattle.pyr_graph.specs.Placements.{same_processor}
use Rattle.pyr_rcp.specs.Mapped.{mapped_graph}
use Rattle.pyr_simul.specs.declared.durations.Durations.{Durations}
use Rattle.pyr_simul.specs.declared.times.Times.{Times}
use Rattle.pyr_simul.specs.Durations.{time_of, delay_of}

-- the sum of the delays of the data that a writes and b reads
abbrev pub delay_between : System → Durations → ℕ → ℕ → ℕ
delay_between s d a b =
    sum_by (delay_of d) (filter (λ x. list_any (nat_eq x) (writes_of s a)) (reads_of s b))

-- the delay from a to b: nothing inside one processor
abbrev pub simulated_delay : System → Placement → Durations → ℕ → ℕ → ℕ
simulated_delay s placement d a b =
    if same_processor placement a b then 0 else delay_between s d a b

-- the mapped graph of a plan, with these times for its costs and these delays for its weights
abbrev pub simulated_graph : System → Placement → List ℕ → Durations → Weighted
simulated_graph s placement order d = record (mapped_graph s placement order) {
  cost = time_of d;
  weight = simulated_delay s placement d;
}

-- each start is the greatest sum, less the task's time, of a path of that graph that ends with the
-- task, and each finish is the task's time after it
pub record AreSimulated (s : System) (placement : Placement) (order : List ℕ) (d : Durations) (times : Times)
    : Type 0 where
  pub starts_full : length times.start ≡ task_count s
  pub finishes_full : length times.finish ≡ task_count s
  pub starts : (t : ℕ) → t < task_count s
      → IsTlevel (simulated_graph s placement order d) t (slice_index times.start t)
  pub finishes : (t : ℕ) → t < task_count s
      → slice_index times.finish t ≡ slice_index times.start t + time_of d t
