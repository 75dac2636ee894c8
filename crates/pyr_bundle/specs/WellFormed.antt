-- What holds of every bundle, in the words that proofs about its runs need.
use Rattle.std.specs.Prelude.{◌≡◌, ℕ, ◌<◌, ◌≤◌, Bool, false, ◌&&◌, ◌==◌, List, length, map, Some, All, Contains, count_by, sum_by, slice_get, slice_index}
use Rattle.pyr_num.specs.declared.limits.TheConstants.Limits.{LEAST_PROCESSORS, PROCESSORS, TASKS, DATUMS, LEAST_LENGTH, LENGTH, READS, WRITES, INSTRUCTIONS}
use Rattle.pyr_num.specs.declared.ids.DatumId.{DatumId}
use Rattle.pyr_num.specs.declared.ids.TaskId.{TaskId}
use Rattle.pyr_num.specs.declared.ids.ProcId.{ProcId}
use Rattle.pyr_bundle.specs.declared.capacity.Capacity.{Capacity}
use Rattle.pyr_bundle.specs.declared.instr.Instr.{Instr}
use Rattle.pyr_bundle.specs.declared.instr.Instr.TheVariants.{Recv, Exec, Send}
use Rattle.pyr_bundle.specs.Laws.{send_count}
use Rattle.pyr_bundle.specs.Parts.{Parts, raw_of, processor_count, task_count, datum_count, task_at, code_at, channel_at, length_of}

-- the numbers of the data that a task reads, and of those that it writes
abbrev pub reads_of : Parts → ℕ → List ℕ
reads_of b t = map (λ d. d.0) (task_at b t).reads

abbrev pub writes_of : Parts → ℕ → List ℕ
writes_of b t = map (λ d. d.0) (task_at b t).writes

-- this instruction stands at this place
abbrev pub StandsAt : Parts → ℕ → ℕ → Instr → Type 0
StandsAt b p i instr = slice_get (code_at b p) i ≡ Some instr

-- what an instruction of p names exists, and its processor is another than p
abbrev pub IsOther : Parts → ℕ → ProcId → Type 0
IsOther b p q = (q.0 < processor_count b) × (q.0 ≡ p → ⊥)

abbrev pub Fits : Parts → ℕ → Instr → Type 0
Fits b p (Recv from d) = IsOther b p from × (d.0 < datum_count b)
Fits b p (Exec t) = t.0 < task_count b
Fits b p (Send to d) = IsOther b p to × (d.0 < datum_count b)

-- a send of this datum to this processor
abbrev pub is_send_of : ℕ → ℕ → Instr → Bool
is_send_of q d (Send to e) = to.0 == q && e.0 == d
is_send_of q d _ = false

-- the capacity of a channel is from 1 to its number of sends
abbrev pub IsFineCapacity : Parts → Capacity → Type 0
IsFineCapacity b c =
    (1 ≤ c.capacity) × (c.capacity ≤ send_count (raw_of b).code c.from.0 c.to.0)

-- no number stands twice in the list
abbrev pub AreDistinct : List ℕ → Type 0
AreDistinct xs =
    (i j : ℕ) → i < length xs → j < length xs → slice_index xs i ≡ slice_index xs j → i ≡ j

pub record IsWellFormed (b : Parts) : Type 0 where
  -- the limits
  pub some_processor : LEAST_PROCESSORS ≤ processor_count b
  pub few_processors : processor_count b ≤ PROCESSORS
  pub few_tasks : task_count b ≤ TASKS
  pub few_datums : datum_count b ≤ DATUMS
  pub short : (p : ℕ) → length (code_at b p) ≤ INSTRUCTIONS
  pub lengths : (d : ℕ) → d < datum_count b → (LEAST_LENGTH ≤ length_of b d) × (length_of b d ≤ LENGTH)
  pub few_reads : (t : ℕ) → t < task_count b → length (reads_of b t) ≤ READS
  pub few_writes : (t : ℕ) → t < task_count b → length (writes_of b t) ≤ WRITES
  pub shape_reads : (t : ℕ) → t < task_count b
      → (task_at b t).code.shape.reads ≡ length (task_at b t).reads
  pub shape_writes : (t : ℕ) → t < task_count b
      → (task_at b t).code.shape.writes ≡ length (task_at b t).writes
  -- reads and writes
  pub reads : (t : ℕ) → t < task_count b → All (λ d. d < datum_count b) (reads_of b t)
  pub writes : (t : ℕ) → t < task_count b → All (λ d. d < datum_count b) (writes_of b t)
  pub reads_once : (t : ℕ) → t < task_count b → AreDistinct (reads_of b t)
  pub writes_once : (t : ℕ) → t < task_count b → AreDistinct (writes_of b t)
  pub some_writer : (d : ℕ) → d < datum_count b
      → (t : ℕ) × (t < task_count b) × Contains (writes_of b t) d
  pub one_writer : (t u d : ℕ) → t < task_count b → u < task_count b
      → Contains (writes_of b t) d → Contains (writes_of b u) d → t ≡ u
  -- instructions
  pub instrs : (p i : ℕ) (instr : Instr) → StandsAt b p i instr → Fits b p instr
  pub some_exec : (t : ℕ) → t < task_count b
      → (p : ℕ) × (i : ℕ) × StandsAt b p i (Exec (record { 0 = t }))
  pub one_exec : (p i q j : ℕ) (t : TaskId) → StandsAt b p i (Exec t) → StandsAt b q j (Exec t)
      → (p ≡ q) × (i ≡ j)
  pub one_send : (p i q j : ℕ) (to : ProcId) (d : DatumId) → StandsAt b p i (Send to d)
      → StandsAt b q j (Send to d) → (p ≡ q) × (i ≡ j)
  pub sends_once : (q d : ℕ) → sum_by (count_by (is_send_of q d)) b.code ≤ 1
  pub one_receive : (p i j : ℕ) (from other : ProcId) (d : DatumId) → StandsAt b p i (Recv from d)
      → StandsAt b p j (Recv other d) → i ≡ j
  -- channels: a lower capacity, from 1, is allowed too
  pub capacities : (i : ℕ) → i < length b.channels → IsFineCapacity b (channel_at b i)
