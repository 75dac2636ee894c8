-- What is wrong with a line behind earlier ones: it may not stand there, or it passes a limit. Of
-- several limits the first of their table is told.
use Rattle.std.specs.Prelude.{ℕ, ◌+◌, Bool, true, false, ◌&&◌, ◌==◌, nat_lt, nat_le, List, length, sum_by, Option, Some, None, if◌then◌else◌}
use Rattle.pyr_num.specs.declared.limits.Quantity.{Quantity}
use Rattle.pyr_num.specs.declared.limits.Quantity.TheVariants as quantities
use Rattle.pyr_num.specs.declared.limits.TheConstants.Limits.{LEAST_PROCESSORS, PROCESSORS, TASKS, DATUMS, LEAST_LENGTH, LENGTH, READS, ALL_READS, WRITES, NODES, ALL_NODES, LOOPS, COUNT, LOCALS, WORK, ALL_WORK, PRINTS, CHANNELS, INSTRUCTIONS}
use Rattle.pyr_code.specs.Seen.{code_of}
use Rattle.pyr_code.specs.Size.{code_nodes, code_work}
use Rattle.pyr_bundle.specs.Raw.{tree_of}
use Rattle.pyr_bundle.specs.declared.raw_task.RawTask.{RawTask}
use Rattle.pyr_bundletext.specs.declared.open_loop.OpenLoop.{OpenLoop}
use Rattle.pyr_bundletext.specs.declared.line.Line.{Line}
use Rattle.pyr_bundletext.specs.declared.line.Line.TheVariants.{Pyrros, Processors, Datum, Task, Reads, Writes, Plain, Loop, Done, End, Print, Channel, Processor, Instr, Stop}
use Rattle.pyr_bundletext.specs.declared.stage.Stage.{Stage}
use Rattle.pyr_bundletext.specs.declared.stage.Stage.TheVariants as stages
use Rattle.pyr_bundletext.specs.Earlier.{Said, Nest}

-- where a line of each kind may stand
abbrev pub is_start : Stage → Bool
is_start stages.Start = true
is_start _ = false

abbrev pub is_versioned : Stage → Bool
is_versioned stages.Versioned = true
is_versioned _ = false

abbrev pub is_data : Stage → Bool
is_data stages.Data = true
is_data _ = false

abbrev pub is_task_begun : Stage → Bool
is_task_begun stages.TaskBegun = true
is_task_begun _ = false

abbrev pub is_task_reads : Stage → Bool
is_task_reads stages.TaskReads = true
is_task_reads _ = false

abbrev pub is_code : Stage → Bool
is_code stages.Code = true
is_code _ = false

abbrev pub is_processor : Stage → Bool
is_processor stages.Processor = true
is_processor _ = false

abbrev pub is_stopped : Stage → Bool
is_stopped stages.Stopped = true
is_stopped _ = false

-- behind data, behind tasks, and so on, or where there is none of them
abbrev pub has_tasks : Stage → Bool
has_tasks stages.Tasks = true
has_tasks stage = is_data stage

abbrev pub has_prints : Stage → Bool
has_prints stages.Prints = true
has_prints stage = has_tasks stage

abbrev pub has_channels : Stage → Bool
has_channels stages.Channels = true
has_channels stage = has_prints stage

abbrev pub has_processors : Stage → Bool
has_processors stages.Processor = true
has_processors stage = has_channels stage

-- the line may stand behind what is said
abbrev pub may_stand : Said → Line → Bool
may_stand s Pyrros = is_start s.stage
may_stand s (Processors count) = is_versioned s.stage
may_stand s (Datum name words) = is_data s.stage
may_stand s (Task locals) = has_tasks s.stage
may_stand s (Reads datums) = is_task_begun s.stage
may_stand s (Writes datums) = is_task_reads s.stage
may_stand s (Plain op) = is_code s.stage
may_stand s (Loop l count) = is_code s.stage
may_stand s Done = is_code s.stage && nat_lt 0 (length s.nest.outer)
may_stand s End = is_code s.stage && length s.nest.outer == 0
may_stand s (Print d) = has_prints s.stage
may_stand s (Channel c) = has_channels s.stage
may_stand s (Processor p) = has_processors s.stage && p == s.begun && nat_lt p s.processors
may_stand s (Instr instr) = is_processor s.stage
may_stand s Stop = is_processor s.stage && s.begun == s.processors

-- this limit where the test fails, else what the others say
abbrev pub unless : Bool → Quantity → Option Quantity → Option Quantity
unless test which others = if test then others else Some which

-- how many ops a task has so far
abbrev pub nodes_around : List OpenLoop → ℕ
nodes_around outer = sum_by (λ o. code_nodes (code_of o.before) + 1) outer

abbrev pub nodes_in : Nest → ℕ
nodes_in nest = nodes_around nest.outer + code_nodes (code_of nest.current)

-- what these tasks have together: reads, ops, steps of a run
abbrev pub all_reads : List RawTask → ℕ
all_reads tasks = sum_by (λ t. length t.reads) tasks

abbrev pub all_nodes : List RawTask → ℕ
all_nodes tasks = sum_by (λ t. code_nodes (tree_of t)) tasks

abbrev pub all_work : List RawTask → ℕ
all_work tasks = sum_by (λ t. code_work (tree_of t)) tasks

-- how many instructions there are
abbrev pub instr_count : Said → ℕ
instr_count s = sum_by length s.code + length s.instrs

-- an op more, before what else is tested
abbrev pub unless_nodes_fit : Said → Option Quantity → Option Quantity
unless_nodes_fit s others =
    unless (nat_lt (nodes_in s.nest) NODES) quantities.Nodes (
    unless (nat_lt (all_nodes s.tasks + nodes_in s.nest) ALL_NODES) quantities.AllNodes others)

-- the first limit that a line passes, by the kind of line
abbrev pub processors_limit : ℕ → Option Quantity
processors_limit count =
    unless (nat_le LEAST_PROCESSORS count && nat_le count PROCESSORS) quantities.Processors None

abbrev pub datum_limit : Said → ℕ → Option Quantity
datum_limit s words =
    unless (nat_lt (length s.datums) DATUMS) quantities.Datums (
    unless (nat_le LEAST_LENGTH words && nat_le words LENGTH) quantities.Length None)

abbrev pub task_limit : Said → ℕ → Option Quantity
task_limit s locals =
    unless (nat_lt (length s.tasks) TASKS) quantities.Tasks (
    unless (nat_le locals LOCALS) quantities.Locals None)

abbrev pub reads_limit : Said → ℕ → Option Quantity
reads_limit s count =
    unless (nat_le count READS) quantities.Reads (
    unless (nat_le (all_reads s.tasks + count) ALL_READS) quantities.AllReads None)

abbrev pub loop_limit : Said → ℕ → Option Quantity
loop_limit s count =
    unless_nodes_fit s (
    unless (nat_lt (length s.nest.outer) LOOPS) quantities.Loops (
    unless (nat_le count COUNT) quantities.Count None))

abbrev pub end_limit : Said → Option Quantity
end_limit s =
    unless (nat_le (code_work (code_of s.nest.current)) WORK) quantities.Work (
    unless (nat_le (all_work s.tasks + code_work (code_of s.nest.current)) ALL_WORK)
    quantities.AllWork None)

unfoldable pub passed_limit : Said → Line → Option Quantity
passed_limit s Pyrros = None
passed_limit s (Processors count) = processors_limit count
passed_limit s (Datum name words) = datum_limit s words
passed_limit s (Task locals) = task_limit s locals
passed_limit s (Reads datums) = reads_limit s (length datums)
passed_limit s (Writes datums) = unless (nat_le (length datums) WRITES) quantities.Writes None
passed_limit s (Plain op) = unless_nodes_fit s None
passed_limit s (Loop l count) = loop_limit s count
passed_limit s Done = None
passed_limit s End = end_limit s
passed_limit s (Print d) = unless (nat_lt (length s.prints) PRINTS) quantities.Prints None
passed_limit s (Channel c) = unless (nat_lt (length s.channels) CHANNELS) quantities.Channels None
passed_limit s (Processor p) = None
passed_limit s (Instr instr) =
    unless (nat_lt (instr_count s) INSTRUCTIONS) quantities.Instructions None
passed_limit s Stop = None
