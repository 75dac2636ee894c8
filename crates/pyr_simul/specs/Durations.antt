-- Durations of the tasks and of the data of a system.
use Rattle.std.specs.Prelude.{◌≡◌, ℕ, ◌≤◌, length, slice_index}
use Rattle.pyr_graph.specs.System.{System, task_count, datum_count}
use Rattle.pyr_simul.specs.declared.durations.Durations.{Durations}
use Rattle.pyr_num.specs.declared.limits.TheConstants.Limits.{TIME, DELAY}

-- the time of a task, and the delay of a datum
abbrev pub time_of : Durations → ℕ → ℕ
time_of d t = slice_index d.time t

abbrev pub delay_of : Durations → ℕ → ℕ
delay_of d x = slice_index d.delay x

-- they are those of this system, within their limits
pub record IsFor (s : System) (d : Durations) : Type 0 where
  pub times_full : length d.time ≡ task_count s
  pub delays_full : length d.delay ≡ datum_count s
  pub times : (t : ℕ) → time_of d t ≤ TIME
  pub delays : (x : ℕ) → delay_of d x ≤ DELAY
