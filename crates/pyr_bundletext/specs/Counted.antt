-- What a reader counts along the way. No public clause cites this.
use Rattle.std.specs.Prelude.{◌≡◌, ℕ, ◌+◌, ◌≤◌, List, length}
use Rattle.pyr_bundle.specs.declared.raw_datum.RawDatum.{RawDatum}
use Rattle.pyr_bundle.specs.declared.raw_task.RawTask.{RawTask}
use Rattle.pyr_bundle.specs.declared.raw_channel.RawChannel.{RawChannel}
use Rattle.pyr_bundle.specs.declared.raw_instr.RawInstr.{RawInstr}
use Rattle.pyr_bundletext.specs.declared.stage.Stage.{Stage}
use Rattle.pyr_num.specs.declared.limits.TheConstants.Limits.{ALL_READS, ALL_NODES, ALL_WORK, INSTRUCTIONS}
use Rattle.pyr_bundletext.specs.Earlier.{Said, Nest}
use Rattle.pyr_bundletext.specs.Faults as Faults
use Rattle.pyr_bundletext.specs.Faults.{nodes_in}

-- what a reader with these fields says
abbrev pub said_in : Stage → ℕ → List RawDatum → List RawTask → ℕ → List ℕ → List ℕ → Nest
    → List ℕ → List RawChannel → ℕ → List (List RawInstr) → List RawInstr → Said
said_in stage processors datums tasks locals reads writes nest prints channels begun code instrs =
    record {
      stage = stage;
      processors = processors;
      datums = datums;
      tasks = tasks;
      locals = locals;
      reads = reads;
      writes = writes;
      nest = nest;
      prints = prints;
      channels = channels;
      begun = begun;
      code = code;
      instrs = instrs;
    }

-- these are the counts of what is said, and they are within the limits
pub record IsCounted (s : Said) (reads nodes work instrs : ℕ) : Type 0 where
  pub all_reads : reads ≡ Faults.all_reads s.tasks
  pub all_nodes : nodes ≡ Faults.all_nodes s.tasks
  pub all_work : work ≡ Faults.all_work s.tasks
  pub all_instrs : instrs ≡ Faults.instr_count s
  pub few_reads : reads + length s.reads ≤ ALL_READS
  pub few_nodes : nodes + nodes_in s.nest ≤ ALL_NODES
  pub little_work : work ≤ ALL_WORK
  pub few_instrs : instrs ≤ INSTRUCTIONS
