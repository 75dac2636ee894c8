-- What the earlier lines of a bundle text say. They stand with the newest first.
use Rattle.std.specs.Prelude.{ℕ, ◌+◌, List, [], ◌∷◌, ◌++◌, ◌==◌, if◌then◌else◌}
use Rattle.pyr_code.specs.declared.op.Op.{Op as OpValue}
use Rattle.pyr_code.specs.declared.op.Op.TheVariants as ops
use Rattle.pyr_bundle.specs.declared.raw_bundle.RawBundle.{RawBundle}
use Rattle.pyr_bundle.specs.declared.raw_datum.RawDatum.{RawDatum}
use Rattle.pyr_bundle.specs.declared.raw_task.RawTask.{RawTask}
use Rattle.pyr_bundle.specs.declared.raw_channel.RawChannel.{RawChannel}
use Rattle.pyr_bundle.specs.declared.raw_instr.RawInstr.{RawInstr}
use Rattle.pyr_bundletext.specs.declared.plain_op.PlainOp.{PlainOp}
use Rattle.pyr_bundletext.specs.declared.plain_op.PlainOp.TheVariants.{Push, Load, Store, Frame, Get, Put, Bin, Sel}
use Rattle.pyr_bundletext.specs.declared.line.Line.{Line}
use Rattle.pyr_bundletext.specs.declared.line.Line.TheVariants.{Pyrros, Processors, Datum, Task, Reads, Writes, Plain, Loop, Done, End, Print, Channel, Processor, Instr, Stop}
use Rattle.pyr_bundletext.specs.declared.open_loop.OpenLoop.{OpenLoop}
use Rattle.pyr_bundletext.specs.declared.stage.Stage.{Stage}
use Rattle.pyr_bundletext.specs.declared.stage.Stage.TheVariants as stages

-- what the newest line began, or went on with
abbrev pub stage_behind : Line → Stage
stage_behind Pyrros = stages.Versioned
stage_behind (Processors count) = stages.Data
stage_behind (Datum name words) = stages.Data
stage_behind (Task locals) = stages.TaskBegun
stage_behind (Reads datums) = stages.TaskReads
stage_behind (Writes datums) = stages.Code
stage_behind (Plain op) = stages.Code
stage_behind (Loop l count) = stages.Code
stage_behind Done = stages.Code
stage_behind End = stages.Tasks
stage_behind (Print d) = stages.Prints
stage_behind (Channel c) = stages.Channels
stage_behind (Processor p) = stages.Processor
stage_behind (Instr instr) = stages.Processor
stage_behind Stop = stages.Stopped

abbrev pub stage_of : List Line → Stage
stage_of [] = stages.Start
stage_of (l ∷ older) = stage_behind l

-- the number of processors
abbrev pub processors_of : List Line → ℕ
processors_of [] = 0
processors_of (Processors count ∷ older) = count
processors_of (_ ∷ older) = processors_of older

-- the data, in the order of their lines
abbrev pub datums_of : List Line → List RawDatum
datums_of [] = []
datums_of (Datum name words ∷ older) =
    datums_of older ++ record { name = name; length = words } ∷ []
datums_of (_ ∷ older) = datums_of older

-- of the task that is open: its locals, the data that it reads and writes
abbrev pub locals_of : List Line → ℕ
locals_of [] = 0
locals_of (Task locals ∷ older) = locals
locals_of (_ ∷ older) = locals_of older

abbrev pub reads_of : List Line → List ℕ
reads_of [] = []
reads_of (Reads datums ∷ older) = datums
reads_of (End ∷ older) = []
reads_of (_ ∷ older) = reads_of older

abbrev pub writes_of : List Line → List ℕ
writes_of [] = []
writes_of (Writes datums ∷ older) = datums
writes_of (End ∷ older) = []
writes_of (_ ∷ older) = writes_of older

-- an op that is no loop
abbrev pub plain_op : PlainOp → OpValue
plain_op (Push word) = ops.Push word
plain_op (Load l) = ops.Load l
plain_op (Store l) = ops.Store l
plain_op Frame = ops.Frame
plain_op (Get slot) = ops.Get slot
plain_op (Put output) = ops.Put output
plain_op (Bin operator) = ops.Bin operator
plain_op Sel = ops.Sel

-- Code that is being read: the loops that are open, of which the innermost stands first, and the
-- ops of the innermost loop, or of the task where no loop is open.
pub record Nest : Type 0 where
  pub outer : List OpenLoop
  pub current : List OpValue

abbrev pub no_code : Nest
no_code = record { outer = []; current = [] }

-- one op more
abbrev pub with_op : Nest → OpValue → Nest
with_op nest op = record nest { current = nest.current ++ op ∷ [] }

-- a loop more
abbrev pub with_loop : Nest → ℕ → ℕ → Nest
with_loop nest l count = record {
  outer = record { before = nest.current; local = l; count = count } ∷ nest.outer;
  current = [];
}

-- the innermost loop ended
abbrev pub ended : List OpenLoop → List OpValue → Nest
ended [] current = record { outer = []; current = current }
ended (o ∷ outer) current =
    record { outer = outer; current = o.before ++ ops.Loop o.local o.count current ∷ [] }

-- the code of that task
abbrev pub nest_of : List Line → Nest
nest_of [] = no_code
nest_of (Writes datums ∷ older) = no_code
nest_of (Plain op ∷ older) = with_op (nest_of older) (plain_op op)
nest_of (Loop l count ∷ older) = with_loop (nest_of older) l count
nest_of (Done ∷ older) = ended (nest_of older).outer (nest_of older).current
nest_of (End ∷ older) = no_code
nest_of (_ ∷ older) = nest_of older

-- that task
abbrev pub task_of : List Line → RawTask
task_of older = record {
  locals = locals_of older;
  reads = reads_of older;
  writes = writes_of older;
  code = (nest_of older).current;
}

-- the tasks that have ended, in order
abbrev pub tasks_of : List Line → List RawTask
tasks_of [] = []
tasks_of (End ∷ older) = tasks_of older ++ task_of older ∷ []
tasks_of (_ ∷ older) = tasks_of older

-- the printed data
abbrev pub prints_of : List Line → List ℕ
prints_of [] = []
prints_of (Print d ∷ older) = prints_of older ++ d ∷ []
prints_of (_ ∷ older) = prints_of older

-- the channels
abbrev pub channels_of : List Line → List RawChannel
channels_of [] = []
channels_of (Channel c ∷ older) = channels_of older ++ c ∷ []
channels_of (_ ∷ older) = channels_of older

-- how many processors were begun
abbrev pub begun_of : List Line → ℕ
begun_of [] = 0
begun_of (Processor p ∷ older) = begun_of older + 1
begun_of (_ ∷ older) = begun_of older

-- the instructions of the processor that was begun last
abbrev pub instrs_of : List Line → List RawInstr
instrs_of [] = []
instrs_of (Processor p ∷ older) = if begun_of older == 0 then instrs_of older else []
instrs_of (Instr instr ∷ older) = instrs_of older ++ instr ∷ []
instrs_of (Stop ∷ older) = []
instrs_of (_ ∷ older) = instrs_of older

-- the instructions of the processors before it, and of all where the last line came
abbrev pub code_of : List Line → List (List RawInstr)
code_of [] = []
code_of (Processor p ∷ older) =
    if begun_of older == 0 then code_of older else code_of older ++ instrs_of older ∷ []
code_of (Stop ∷ older) = code_of older ++ instrs_of older ∷ []
code_of (_ ∷ older) = code_of older

-- what the lines say
pub record Said : Type 0 where
  pub stage : Stage
  pub processors : ℕ
  pub datums : List RawDatum
  pub tasks : List RawTask
  pub locals : ℕ
  pub reads : List ℕ
  pub writes : List ℕ
  pub nest : Nest
  pub prints : List ℕ
  pub channels : List RawChannel
  pub begun : ℕ
  pub code : List (List RawInstr)
  pub instrs : List RawInstr

abbrev pub said_by : List Line → Said
said_by older = record {
  stage = stage_of older;
  processors = processors_of older;
  datums = datums_of older;
  tasks = tasks_of older;
  locals = locals_of older;
  reads = reads_of older;
  writes = writes_of older;
  nest = nest_of older;
  prints = prints_of older;
  channels = channels_of older;
  begun = begun_of older;
  code = code_of older;
  instrs = instrs_of older;
}

-- the bundle that is said
abbrev pub raw_said : Said → RawBundle
raw_said s = record {
  datums = s.datums;
  tasks = s.tasks;
  prints = s.prints;
  channels = s.channels;
  code = s.code;
}
