-- The parts of a bundle as they are handed in, and the limits that they keep.
use Rattle.std.specs.Prelude.{ℕ, ◌≤◌, List, [], All, length, sum_by, slice_index_or}
use Rattle.pyr_num.specs.declared.limits.TheConstants.Limits.{LEAST_PROCESSORS, PROCESSORS, TASKS, DATUMS, LEAST_LENGTH, LENGTH, READS, ALL_READS, WRITES, ALL_NODES, ALL_WORK, PRINTS, CHANNELS, INSTRUCTIONS}
use Rattle.pyr_code.specs.declared.shape.Shape.{Shape}
use Rattle.pyr_code.specs.Tree.{Code}
use Rattle.pyr_code.specs.Seen.{code_of}
use Rattle.pyr_code.specs.Size.{code_nodes, code_work, IsWithinLimits as IsCodeWithinLimits}
use Rattle.pyr_bundle.specs.declared.raw_bundle.RawBundle.{RawBundle}
use Rattle.pyr_bundle.specs.declared.raw_task.RawTask.{RawTask}
use Rattle.pyr_bundle.specs.declared.raw_instr.RawInstr.{RawInstr}

-- the number of data, of tasks, of processors
abbrev pub datum_count : RawBundle → ℕ
datum_count raw = length raw.datums

abbrev pub task_count : RawBundle → ℕ
task_count raw = length raw.tasks

abbrev pub processor_count : RawBundle → ℕ
processor_count raw = length raw.code

-- the task of this number in a list; past the end, one without anything
abbrev pub task_in : List RawTask → ℕ → RawTask
task_in tasks t = slice_index_or tasks t (record { locals = 0; reads = []; writes = []; code = [] })

-- the instructions of this processor in a list; past the end, none
abbrev pub code_in : List (List RawInstr) → ℕ → List RawInstr
code_in code p = slice_index_or code p []

-- what the code of a task may name
abbrev pub shape_of : RawTask → Shape
shape_of task =
    record { reads = length task.reads; writes = length task.writes; locals = task.locals }

-- the code of a task as a tree
abbrev pub tree_of : RawTask → Code
tree_of task = code_of task.code

-- the lists and the code of a task are within the limits
pub record IsTaskWithinLimits (task : RawTask) : Type 0 where
  pub reads : length task.reads ≤ READS
  pub writes : length task.writes ≤ WRITES
  pub code : IsCodeWithinLimits (shape_of task) (tree_of task)

-- every number is within its limits, but for the length of a text
pub record IsWithinLimits (raw : RawBundle) : Type 0 where
  pub least_processors : LEAST_PROCESSORS ≤ processor_count raw
  pub processors : processor_count raw ≤ PROCESSORS
  pub tasks : task_count raw ≤ TASKS
  pub datums : datum_count raw ≤ DATUMS
  pub lengths : All (λ d. (LEAST_LENGTH ≤ d.length) × (d.length ≤ LENGTH)) raw.datums
  pub each_task : All IsTaskWithinLimits raw.tasks
  pub all_reads : sum_by (λ t. length t.reads) raw.tasks ≤ ALL_READS
  pub all_nodes : sum_by (λ t. code_nodes (tree_of t)) raw.tasks ≤ ALL_NODES
  pub all_work : sum_by (λ t. code_work (tree_of t)) raw.tasks ≤ ALL_WORK
  pub prints : length raw.prints ≤ PRINTS
  pub channels : length raw.channels ≤ CHANNELS
  pub instructions : sum_by length raw.code ≤ INSTRUCTIONS
