-- Schedules of the tasks with their times, and the bound that no schedule can beat. They know no
-- plan, and no messages.
use Rattle.std.specs.Prelude.{◌≡◌, ◌≢◌, ◌⊎◌, ℕ, ◌+◌, ◌<◌, ◌≤◌, max, List, [], ◌∷◌, length, slice_index, sum}
use Rattle.std.specs.Int.{div_ceil}
use Rattle.pyr_graph.specs.System.{System, task_count, task_numbers, IsEdge}
use Rattle.pyr_levels.specs.Path.{Weighted, IsBlevel}
use Rattle.pyr_graph.specs.Numbers.{numbers, greatest}
use Rattle.pyr_simul.specs.declared.bound.Bound.{Bound}
use Rattle.pyr_simul.specs.declared.durations.Durations.{Durations}
use Rattle.pyr_simul.specs.Durations.{time_of}

-- A schedule on so many processors: a start and a processor for each task. Of two tasks on one
-- processor, one finishes no later than the other starts.
pub record IsSchedule (s : System) (d : Durations) (processors : ℕ) (start processor : ℕ → ℕ)
    : Type 0 where
  pub inside : (t : ℕ) → t < task_count s → processor t < processors
  pub apart : (a b : ℕ) → a < task_count s → b < task_count s → a ≢ b → processor a ≡ processor b
      → (start a + time_of d a ≤ start b) ⊎ (start b + time_of d b ≤ start a)
  pub after : (a b : ℕ) → a < task_count s → b < task_count s → IsEdge s a b
      → start a + time_of d a ≤ start b

-- the length of a schedule: its greatest finish
abbrev pub schedule_length : System → Durations → (ℕ → ℕ) → ℕ
schedule_length s d start = greatest (λ t. start t + time_of d t) (numbers (task_count s))

-- the task graph with these times, in which messages take none
abbrev pub timed_graph : System → Durations → Weighted
timed_graph s d = record {
  IsTask = λ t. t < task_count s;
  IsLink = IsEdge s;
  cost = time_of d;
  weight = λ a b. 0;
}

-- for each task, the greatest sum of times of a path that starts with it
pub record AreValues (s : System) (d : Durations) (values : List ℕ) : Type 0 where
  pub full : length values ≡ task_count s
  pub each : (t : ℕ) → t < task_count s → IsBlevel (timed_graph s d) t (slice_index values t)

-- the smallest of the tasks of greatest value
pub record ComesFirst (s : System) (values : List ℕ) (t : ℕ) : Type 0 where
  pub task : t < task_count s
  pub greatest : (u : ℕ) → u < task_count s → slice_index values u ≤ slice_index values t
  pub smallest : (u : ℕ) → u < task_count s → slice_index values u ≡ slice_index values t → t ≤ u

-- the smallest successor of t whose value is that of t less its time
pub record ComesNext (s : System) (d : Durations) (values : List ℕ) (t u : ℕ) : Type 0 where
  pub task : u < task_count s
  pub edge : IsEdge s t u
  pub value : slice_index values u + time_of d t ≡ slice_index values t
  pub smallest : (v : ℕ) → v < task_count s → IsEdge s t v
      → slice_index values v + time_of d t ≡ slice_index values t → u ≤ v

-- a path that goes from each task to the one that comes next, and ends at one whose value is its time
abbrev pub Continues : System → Durations → List ℕ → List ℕ → Type 0
Continues s d values [] = ⊥
Continues s d values (t ∷ []) = slice_index values t ≡ time_of d t
Continues s d values (t ∷ u ∷ rest) =
    (slice_index values t ≢ time_of d t)
    × ComesNext s d values t u
    × Continues s d values (u ∷ rest)

-- the greater of the greatest sum of a path and of the load of each processor, were it equal
pub record IsBound (s : System) (d : Durations) (processors : ℕ) (b : Bound) : Type 0 where
  pub values : List ℕ
  pub are_values : AreValues s d values
  pub first : ComesFirst s values (slice_index (task_numbers b.path) 0)
  pub continues : Continues s d values (task_numbers b.path)
  pub path_sum : b.path_sum ≡ slice_index values (slice_index (task_numbers b.path) 0)
  pub load : b.load ≡ div_ceil (sum d.time) processors
  pub bound : b.bound ≡ max b.path_sum b.load
