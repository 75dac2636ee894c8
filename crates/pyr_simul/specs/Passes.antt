-- What the private parts and steps keep. No public clause cites this.
use Rattle.std.specs.Prelude.{◌≡◌, ◌≢◌, ◌⊎◌, ℕ, ◌+◌, ◌*◌, ◌<◌, ◌≤◌, Option, Some, None, List, slice_index}
use Rattle.pyr_num.specs.declared.limits.TheConstants.Limits.{TASKS, READS, TIME, DELAY}
use Rattle.pyr_num.specs.declared.ids.TaskId.{TaskId}
use Rattle.pyr_graph.specs.declared.placement.Placement.{Placement}
use Rattle.pyr_graph.specs.System.{System, task_count, IsEdge}
use Rattle.pyr_simul.specs.declared.durations.Durations.{Durations}
use Rattle.pyr_simul.specs.Durations.{time_of}
use Rattle.pyr_simul.specs.Bound.{ComesNext}
use Rattle.pyr_simul.specs.Simulated.{simulated_delay}

-- the task that comes next, or none where a value is the task's time
abbrev pub IsNextOf : System → Durations → List ℕ → ℕ → Option TaskId → Type 0
IsNextOf s d values t None = slice_index values t ≡ time_of d t
IsNextOf s d values t (Some u) = (slice_index values t ≢ time_of d t) × ComesNext s d values t u.0

-- the most that a task and what it sends to one other take, and the most that a plan takes
abbrev pub most_delay : ℕ
most_delay = TIME + READS * DELAY

abbrev pub longest_times : ℕ
longest_times = TASKS * most_delay

-- the arrivals over the edges into a task: none is later than the number, which is one of them or 0
pub record IsLatest (s : System) (placement : Placement) (d : Durations) (starts : List ℕ) (t latest : ℕ)
    : Type 0 where
  pub above : (u : ℕ) → u < task_count s → IsEdge s u t
      → slice_index starts u + (time_of d u + simulated_delay s placement d u t) ≤ latest
  pub reached : (latest ≡ 0) ⊎ ((u : ℕ) × (u < task_count s) × IsEdge s u t
      × (slice_index starts u + (time_of d u + simulated_delay s placement d u t) ≡ latest))
