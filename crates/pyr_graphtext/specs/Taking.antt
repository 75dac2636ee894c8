-- What the reader of a text does with a line.
use Rattle.std.specs.Prelude.{◌≡◌, ◌≢◌, nat_lt, if◌then◌else◌, ℕ, ◌+◌, List, [], ◌∷◌, ◌++◌, length, Some, None, Result, Ok, Err, option_map}
use Rattle.pyr_num.specs.declared.name.Name.{Name}
use Rattle.pyr_num.specs.declared.limits.Quantity.TheVariants.{Depth}
use Rattle.pyr_num.specs.declared.limits.TheConstants.Limits.{DEPTH}
use Rattle.pyr_lex.specs.declared.token.Token.{Token}
use Rattle.pyr_lex.specs.Depth.{depth_of}
use Rattle.pyr_body.specs.declared.line_fault.LineFault.{LineFault as BodyFault}
use Rattle.pyr_body.specs.Size.{statements_nodes, statements_work}
use Rattle.pyr_body.specs.declared.line_fault.LineFault.TheVariants as body_faults
use Rattle.pyr_body.specs.Taking.{LinesTaken, no_lines}
use Rattle.pyr_body.specs.Reader.{GoesOn, EndsWith}
use Rattle.pyr_graphtext.specs.declared.form.Form.{Form}
use Rattle.pyr_graphtext.specs.declared.line_fault.LineFault.{LineFault}
use Rattle.pyr_graphtext.specs.declared.line_fault.LineFault.TheVariants.{Text, Limit, Memory}
use Rattle.pyr_graphtext.specs.declared.open_task.OpenTask.{OpenTask}
use Rattle.pyr_graphtext.specs.declared.closed_task.ClosedTask.{ClosedTask}
use Rattle.pyr_graphtext.specs.declared.open_part.OpenPart.TheVariants.{AfterTask, AfterReads, InBody}
use Rattle.pyr_graphtext.specs.Line.{Line, Plain}
use Rattle.pyr_graphtext.specs.Earlier.{datum_ids}
use Rattle.pyr_graphtext.specs.Faults.{form_fault}
use Rattle.pyr_graphtext.specs.Outcome.{IsTokensOutcome, IsOutcome}
use Rattle.pyr_graphtext.specs.BodyFaults.{told_by_body}
use Rattle.pyr_graphtext.specs.State.{State, Follows, reader_of, reads_in}

-- A task was closed with its body, or its body has this fault at its end.
abbrev pub ClosesTask : OpenTask → ℕ → Result ClosedTask LineFault → Type 0
ClosesTask task nodes (Ok closed) =
    EndsWith (reader_of task.part nodes) (Ok closed.body)
    × (closed.parts ≡ record { cost = task.cost; reads = task.reads; writes = task.writes })
ClosesTask task nodes (Err Memory) = Unit {0}
ClosesTask task nodes (Err e) =
    (fault : BodyFault) × EndsWith (reader_of task.part nodes) (Err fault)
    × (e ≡ told_by_body fault)

-- the state with a datum more, and so on
abbrev pub with_datum : State → Name → ℕ → ℕ → State
with_datum s name words comm = record s {
  datum_names = s.datum_names ++ name ∷ [];
  datums = s.datums ++ record { length = words; comm = comm } ∷ [];
}

abbrev pub with_task : State → Name → ℕ → State
with_task s name cost = record s {
  task_names = s.task_names ++ name ∷ [];
  open_task = Some (record { cost = cost; reads = []; writes = []; part = AfterTask });
}

-- the open task with these reads
abbrev pub task_reading : List Name → List Name → OpenTask → OpenTask
task_reading datums names task =
    record task { reads = datum_ids datums names; part = AfterReads names }

abbrev pub with_reads : State → List Name → State
with_reads s names = record s {
  all_reads = s.all_reads + length names;
  open_task = option_map (task_reading s.datum_names names) s.open_task;
}

-- the open task with these writes
abbrev pub task_writing : List Name → List Name → ℕ → OpenTask → OpenTask
task_writing datums names nodes task = record task {
  writes = datum_ids datums names;
  part = InBody (Ok (no_lines (reads_in task.part) names nodes));
}

abbrev pub with_writes : State → List Name → State
with_writes s names = record s {
  written = s.written ++ names;
  open_task = option_map (task_writing s.datum_names names s.nodes) s.open_task;
}

abbrev pub with_closed : State → ClosedTask → State
with_closed s closed = record s {
  open_task = None;
  tasks = s.tasks ++ closed.parts ∷ [];
  bodies = s.bodies ++ closed.body ∷ [];
  nodes = s.nodes + statements_nodes closed.body.statements;
  work = s.work + statements_work closed.body.statements;
}

abbrev pub with_print : State → Name → State
with_print s name = record s { prints = s.prints ++ name ∷ [] }

-- A line of this form was taken, or it has this fault, whatever lines the state is what they say.
abbrev pub TakesForm : {X : Type 0} → State → Form → Result X LineFault → State → Type 0
TakesForm old form (Ok x) new = (said : List Line) → Follows said old
    → (form_fault said form ≡ None) × Follows (Plain form ∷ said) new
TakesForm old form (Err Memory) new = Unit {0}
TakesForm old form (Err e) new =
    (said : List Line) → Follows said old → form_fault said form ≡ Some e

-- Tokens were taken as a line, or they have this fault.
abbrev pub TakesTokens : {X : Type 0} → State → List Token → Result X LineFault → State → Type 0
TakesTokens old ts (Ok x) new = (said : List Line) → Follows said old
    → (line : Line) × IsTokensOutcome said ts (Ok line) × Follows (line ∷ said) new
TakesTokens old ts (Err Memory) new = Unit {0}
TakesTokens old ts (Err e) new =
    (said : List Line) → Follows said old → IsTokensOutcome said ts (Err e)

-- A line was taken, or it has this fault.
abbrev pub TakesLine : {X : Type 0} → State → List ℕ → Result X LineFault → State → Type 0
TakesLine old text (Ok x) new = (said : List Line) → Follows said old
    → (line : Line) × IsOutcome said text (Ok line) × Follows (line ∷ said) new
TakesLine old text (Err Memory) new = Unit {0}
TakesLine old text (Err e) new =
    (said : List Line) → Follows said old → IsOutcome said text (Err e)

-- A line of the body of a task was taken, or the body's reader answers this fault.
abbrev pub TakesBodyLine : OpenTask → ℕ → List Token → Result OpenTask LineFault → Type 0
TakesBodyLine task nodes ts (Ok new) =
    (taken : LinesTaken) × GoesOn (reader_of task.part nodes) ts (Ok taken)
    × (new ≡ record task { part = InBody (Ok taken) })
TakesBodyLine task nodes ts (Err Memory) = Unit {0}
TakesBodyLine task nodes ts (Err e) =
    (fault : BodyFault) × GoesOn (reader_of task.part nodes) ts (Err fault)
    × (fault ≢ body_faults.Memory) × (e ≡ told_by_body fault)

-- what is wrong with a line of a body that stands outside a task
abbrev pub stray_fault : List Token → LineFault
stray_fault ts = if nat_lt DEPTH (depth_of ts) then Limit Depth else Text
