-- What a bundle holds, and the parts that it was made of.
use Rattle.std.specs.Prelude.{◌≡◌, ℕ, List, [], map, All, length, slice_index_or, slice_set}
use Rattle.pyr_num.specs.declared.ids.DatumId.{DatumId}
use Rattle.pyr_num.specs.declared.ids.TaskId.{TaskId}
use Rattle.pyr_num.specs.declared.ids.ProcId.{ProcId}
use Rattle.pyr_code.specs.Verified.{ShapedCode}
use Rattle.pyr_bundle.specs.declared.raw_bundle.RawBundle.{RawBundle}
use Rattle.pyr_bundle.specs.declared.raw_datum.RawDatum.{RawDatum}
use Rattle.pyr_bundle.specs.declared.raw_task.RawTask.{RawTask}
use Rattle.pyr_bundle.specs.declared.raw_channel.RawChannel.{RawChannel}
use Rattle.pyr_bundle.specs.declared.raw_instr.RawInstr.{RawInstr}
use Rattle.pyr_bundle.specs.declared.raw_instr.RawInstr.TheVariants.{Recv as RawRecv, Exec as RawExec, Send as RawSend}
use Rattle.pyr_bundle.specs.declared.bundle_task.BundleTask.{BundleTask}
use Rattle.pyr_bundle.specs.declared.capacity.Capacity.{Capacity}
use Rattle.pyr_bundle.specs.declared.instr.Instr.{Instr}
use Rattle.pyr_bundle.specs.declared.instr.Instr.TheVariants.{Recv, Exec, Send}
use Rattle.pyr_bundle.specs.Raw.{shape_of, IsWithinLimits}
use Rattle.pyr_bundle.specs.Faults.{IsLawful}

-- the data, the tasks, the printed data, the channels, and the instructions of each processor
pub record Parts : Type 0 where
  pub datums : List RawDatum
  pub tasks : List BundleTask
  pub prints : List DatumId
  pub channels : List Capacity
  pub code : List (List Instr)

-- a number as that of a datum, of a task, of a processor
abbrev pub datum_id : ℕ → DatumId
datum_id d = record { 0 = d }

abbrev pub task_id : ℕ → TaskId
task_id t = record { 0 = t }

abbrev pub proc_id : ℕ → ProcId
proc_id p = record { 0 = p }

-- the parts that a bundle of raw parts has: every number as what it names
abbrev pub verified_code_of : RawTask → ShapedCode
verified_code_of task = record { ops = task.code; shape = shape_of task }

abbrev pub bundle_task_of : RawTask → BundleTask
bundle_task_of task = record {
  reads = map datum_id task.reads;
  writes = map datum_id task.writes;
  code = verified_code_of task;
}

abbrev pub capacity_of : RawChannel → Capacity
capacity_of c = record { from = proc_id c.from; to = proc_id c.to; capacity = c.capacity }

abbrev pub instr_of : RawInstr → Instr
instr_of (RawRecv from d) = Recv (proc_id from) (datum_id d)
instr_of (RawExec t) = Exec (task_id t)
instr_of (RawSend to d) = Send (proc_id to) (datum_id d)

abbrev pub parts_of : RawBundle → Parts
parts_of raw = record {
  datums = raw.datums;
  tasks = map bundle_task_of raw.tasks;
  prints = map datum_id raw.prints;
  channels = map capacity_of raw.channels;
  code = map (map instr_of) raw.code;
}

-- the raw parts of a bundle: everything as plain numbers
abbrev pub raw_task_of : BundleTask → RawTask
raw_task_of task = record {
  locals = task.code.shape.locals;
  reads = map (λ d. d.0) task.reads;
  writes = map (λ d. d.0) task.writes;
  code = task.code.ops;
}

abbrev pub raw_channel_of : Capacity → RawChannel
raw_channel_of c = record { from = c.from.0; to = c.to.0; capacity = c.capacity }

abbrev pub raw_instr_of : Instr → RawInstr
raw_instr_of (Recv from d) = RawRecv from.0 d.0
raw_instr_of (Exec t) = RawExec t.0
raw_instr_of (Send to d) = RawSend to.0 d.0

abbrev pub raw_of : Parts → RawBundle
raw_of b = record {
  datums = b.datums;
  tasks = map raw_task_of b.tasks;
  prints = map (λ d. d.0) b.prints;
  channels = map raw_channel_of b.channels;
  code = map (map raw_instr_of) b.code;
}

-- What every bundle keeps: the laws, the limits, and code for as many inputs and outputs as the
-- task reads and writes data.
pub record IsBundle (b : Parts) : Type 0 where
  pub lawful : IsLawful (raw_of b)
  pub limits : IsWithinLimits (raw_of b)
  pub shapes : All (λ task. task.code.shape ≡ shape_of (raw_task_of task)) b.tasks

-- the number of processors, of tasks, of data
abbrev pub processor_count : Parts → ℕ
processor_count b = length b.code

abbrev pub task_count : Parts → ℕ
task_count b = length b.tasks

abbrev pub datum_count : Parts → ℕ
datum_count b = length b.datums

-- the task of this number; past the end, one without anything
abbrev pub no_task : BundleTask
no_task = record {
  reads = [];
  writes = [];
  code = record { ops = []; shape = record { reads = 0; writes = 0; locals = 0 } };
}

abbrev pub task_at : Parts → ℕ → BundleTask
task_at b t = slice_index_or b.tasks t no_task

-- the instructions of this processor; past the end, none
abbrev pub code_at : Parts → ℕ → List Instr
code_at b p = slice_index_or b.code p []

-- the datum of this number; past the end, one without a name or words
abbrev pub datum_at : Parts → ℕ → RawDatum
datum_at b d = slice_index_or b.datums d (record { name = []; length = 0 })

-- the number of words of a datum
abbrev pub length_of : Parts → ℕ → ℕ
length_of b d = (datum_at b d).length

-- the channel of this index; past the end, one that holds nothing
abbrev pub no_channel : Capacity
no_channel = record { from = proc_id 0; to = proc_id 0; capacity = 0 }

abbrev pub channel_at : Parts → ℕ → Capacity
channel_at b i = slice_index_or b.channels i no_channel

-- the bundle with another capacity for one channel
abbrev pub with_capacity : Parts → ℕ → ℕ → Parts
with_capacity b i capacity =
    record b { channels = slice_set b.channels i (record (channel_at b i) { capacity = capacity }) }
