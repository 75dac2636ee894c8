-- What the steps of reading answer. No public clause cites this.
use Rattle.std.specs.Prelude.{◌≡◌, ℕ, ◌+◌, List, [], ◌∷◌, ◌++◌, ◌==◌, Option, Some, None, Result, Ok, Err, true, false, if◌then◌else◌}
use Rattle.pyr_bundletext.specs.declared.line_fault.LineFault.{LineFault}
use Rattle.pyr_bundletext.specs.declared.line_fault.LineFault.TheVariants as faults
use Rattle.pyr_bundletext.specs.declared.bundle_text_fault.BundleTextFault.{BundleTextFault}
use Rattle.pyr_bundletext.specs.declared.bundle_text_fault.BundleTextFault.TheVariants.{BadText, Limit, Memory}
use Rattle.pyr_bundletext.specs.declared.line.Line.{Line}
use Rattle.pyr_bundletext.specs.declared.line.Line.TheVariants as lines
use Rattle.pyr_bundletext.specs.declared.stage.Stage.TheVariants as stages
use Rattle.pyr_bundletext.specs.Earlier.{Said, no_code, plain_op, with_op, with_loop, ended}
use Rattle.pyr_bundletext.specs.Faults.{may_stand, passed_limit}
use Rattle.pyr_bundletext.specs.Reading.{line_of}

-- what was asked for, or bad text where there is none, unless memory ran out
abbrev pub IsRead : {X : Type 0} → Option X → Result X LineFault → Type 0
IsRead wanted (Ok x) = wanted ≡ Some x
IsRead wanted (Err faults.Text) = wanted ≡ None
IsRead wanted (Err (faults.Limit which)) = ⊥
IsRead wanted (Err faults.Memory) = Unit {0}

-- the fault of a line, told with the number of the line
abbrev pub placed : ℕ → LineFault → BundleTextFault
placed n faults.Text = BadText n
placed n (faults.Limit which) = Limit n which
placed n faults.Memory = Memory

-- what is said with a datum more, with the open task ended, with a processor more
abbrev pub with_datum : Said → List ℕ → ℕ → Said
with_datum s name words = record s {
  stage = stages.Data;
  datums = s.datums ++ record { name = name; length = words } ∷ [];
}

abbrev pub with_task : Said → Said
with_task s = record s {
  stage = stages.Tasks;
  tasks = s.tasks ++ record {
    locals = s.locals;
    reads = s.reads;
    writes = s.writes;
    code = s.nest.current;
  } ∷ [];
  reads = [];
  writes = [];
  nest = no_code;
}

abbrev pub with_processor : Said → Said
with_processor s = record s {
  stage = stages.Processor;
  begun = s.begun + 1;
  code = if s.begun == 0 then s.code else s.code ++ s.instrs ∷ [];
  instrs = if s.begun == 0 then s.instrs else [];
}

-- what is said with one line more
unfoldable pub advance : Said → Line → Said
advance s lines.Pyrros = record s { stage = stages.Versioned }
advance s (lines.Processors count) = record s { stage = stages.Data; processors = count }
advance s (lines.Datum name words) = with_datum s name words
advance s (lines.Task locals) = record s { stage = stages.TaskBegun; locals = locals }
advance s (lines.Reads datums) = record s { stage = stages.TaskReads; reads = datums }
advance s (lines.Writes datums) =
    record s { stage = stages.Code; writes = datums; nest = no_code }
advance s (lines.Plain op) =
    record s { stage = stages.Code; nest = with_op s.nest (plain_op op) }
advance s (lines.Loop l count) =
    record s { stage = stages.Code; nest = with_loop s.nest l count }
advance s lines.Done =
    record s { stage = stages.Code; nest = ended s.nest.outer s.nest.current }
advance s lines.End = with_task s
advance s (lines.Print d) = record s { stage = stages.Prints; prints = s.prints ++ d ∷ [] }
advance s (lines.Channel c) =
    record s { stage = stages.Channels; channels = s.channels ++ c ∷ [] }
advance s (lines.Processor p) = with_processor s
advance s (lines.Instr instr) =
    record s { stage = stages.Processor; instrs = s.instrs ++ instr ∷ [] }
advance s lines.Stop =
    record s { stage = stages.Stopped; code = s.code ++ s.instrs ∷ []; instrs = [] }

-- A line was taken behind what is said, or this is what is wrong with it.
abbrev pub TakesLine : Said → Line → Result Said LineFault → Type 0
TakesLine s l (Ok new) =
    (may_stand s l ≡ true) × (passed_limit s l ≡ None) × (new ≡ advance s l)
TakesLine s l (Err faults.Text) = may_stand s l ≡ false
TakesLine s l (Err (faults.Limit which)) =
    (may_stand s l ≡ true) × (passed_limit s l ≡ Some which)
TakesLine s l (Err faults.Memory) = Unit {0}

-- The line of these bytes was taken behind what is said, or this is what is wrong with it.
abbrev pub TakesBytes : Said → List ℕ → Result Said LineFault → Type 0
TakesBytes s bytes (Ok new) =
    (l : Line) × (line_of bytes ≡ Some l) × TakesLine s l (Ok new)
TakesBytes s bytes (Err faults.Text) =
    (l : Line) → line_of bytes ≡ Some l → may_stand s l ≡ false
TakesBytes s bytes (Err (faults.Limit which)) =
    (l : Line) × (line_of bytes ≡ Some l) × TakesLine s l (Err (faults.Limit which))
TakesBytes s bytes (Err faults.Memory) = Unit {0}
