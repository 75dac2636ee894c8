-- What is wrong with a line of a form, by what the earlier lines say. The first test that fails
-- decides: the place of the line, the limits in the order of their table, the names from left to
-- right.
use Rattle.std.specs.Prelude.{◌≡◌, ⊤, ℕ, ◌+◌, Bool, true, false, not, ◌&&◌, List, [], ◌∷◌, length, Option, None, nat_lt, nat_le}
use Rattle.pyr_num.specs.declared.limits.Quantity.TheVariants as quantities
use Rattle.pyr_num.specs.declared.limits.TheConstants.Limits.{TASKS, DATUMS, LEAST_LENGTH, LENGTH, COMM, LEAST_COST, COST, READS, ALL_READS, WRITES, WORK, ALL_WORK, PRINTS}
use Rattle.pyr_num.specs.declared.name.Name.{Name}
use Rattle.pyr_body.specs.Written.{WrittenLine}
use Rattle.pyr_graphtext.specs.declared.form.Form.{Form}
use Rattle.pyr_graphtext.specs.declared.form.Form.TheVariants as forms
use Rattle.pyr_graphtext.specs.declared.line_fault.LineFault.{LineFault}
use Rattle.pyr_graphtext.specs.declared.line_fault.LineFault.TheVariants.{Text, Limit, Names}
use Rattle.pyr_graphtext.specs.declared.program_fault.NameKind.TheVariants.{Unknown, Duplicate, SecondWriter}
use Rattle.pyr_graphtext.specs.declared.stage.Stage.{Stage}
use Rattle.pyr_graphtext.specs.declared.stage.Stage.TheVariants.{Outside, AfterTask, AfterReads}
use Rattle.pyr_graphtext.specs.Line.{Line, Blank, Plain, Statement}
use Rattle.pyr_graphtext.specs.Statements.{unless, is_among, open_counts, work_of, statement_fault}
use Rattle.pyr_graphtext.specs.Earlier.{stage_of, datum_names, task_names, last_reads, last_writes, last_statements, written, prints, all_reads, all_nodes, all_work}

-- where lines of each kind may stand
abbrev pub is_outside : Stage → Bool
is_outside Outside = true
is_outside _ = false

abbrev pub may_read : Stage → Bool
may_read AfterTask = true
may_read _ = false

abbrev pub may_write : Stage → Bool
may_write AfterTask = true
may_write AfterReads = true
may_write _ = false

abbrev pub is_some_name : List Name → Bool
is_some_name [] = false
is_some_name (name ∷ names) = true

-- a line `data`, behind data of these names
unfoldable pub data_fault : Stage → List Name → Name → ℕ → ℕ → Option LineFault
data_fault stage datums name words comm =
    unless (is_outside stage) Text (
    unless (nat_lt (length datums) DATUMS) (Limit quantities.Datums) (
    unless (nat_le LEAST_LENGTH words && nat_le words LENGTH) (Limit quantities.Length) (
    unless (nat_le comm COMM) (Limit quantities.Comm) (
    unless (not (is_among datums name)) (Names Duplicate name) None))))

-- a line `task`, behind tasks of these names
unfoldable pub task_fault : Stage → List Name → Name → ℕ → Option LineFault
task_fault stage tasks name cost =
    unless (is_outside stage) Text (
    unless (nat_lt (length tasks) TASKS) (Limit quantities.Tasks) (
    unless (nat_le LEAST_COST cost && nat_le cost COST) (Limit quantities.Cost) (
    unless (not (is_among tasks name)) (Names Duplicate name) None)))

-- names that are read: each is a datum's, and none stands twice; a name that does is told at its
-- first place
abbrev pub read_names_fault : List Name → List Name → Option LineFault
read_names_fault datums [] = None
read_names_fault datums (name ∷ later) =
    unless (is_among datums name) (Names Unknown name) (
    unless (not (is_among later name)) (Names Duplicate name) (
    read_names_fault datums later))

-- a line `reads`, where tasks read so many data already
unfoldable pub reads_fault : Stage → List Name → ℕ → List Name → Option LineFault
reads_fault stage datums all_reads names =
    unless (may_read stage && is_some_name names) Text (
    unless (nat_le (length names) READS) (Limit quantities.Reads) (
    unless (nat_le (all_reads + length names) ALL_READS) (Limit quantities.AllReads) (
    read_names_fault datums names)))

-- names that are written: the same, and no other task writes the datum
abbrev pub written_names_fault : List Name → List Name → List Name → Option LineFault
written_names_fault datums others [] = None
written_names_fault datums others (name ∷ later) =
    unless (is_among datums name) (Names Unknown name) (
    unless (not (is_among later name)) (Names Duplicate name) (
    unless (not (is_among others name)) (Names SecondWriter name) (
    written_names_fault datums others later)))

-- a line `writes`, where other tasks write these data
unfoldable pub writes_fault : Stage → List Name → List Name → List Name → Option LineFault
writes_fault stage datums others names =
    unless (may_write stage && is_some_name names) Text (
    unless (nat_le (length names) WRITES) (Limit quantities.Writes) (
    written_names_fault datums others names))

-- a line `end` behind these lines of the body, where the bodies before do so much work
unfoldable pub end_fault : Stage → List WrittenLine → ℕ → Option LineFault
end_fault stage lines all_work =
    unless (not (is_outside stage)) Text (
    unless (nat_le (length (open_counts lines)) 0) Text (
    unless (nat_le (work_of lines) WORK) (Limit quantities.Work) (
    unless (nat_le (all_work + work_of lines) ALL_WORK) (Limit quantities.AllWork) None)))

-- a line `print`, behind prints of these names
unfoldable pub print_fault : Stage → List Name → List Name → Name → Option LineFault
print_fault stage datums prints name =
    unless (is_outside stage) Text (
    unless (nat_lt (length prints) PRINTS) (Limit quantities.Prints) (
    unless (is_among datums name) (Names Unknown name) (
    unless (not (is_among prints name)) (Names Duplicate name) None)))

-- a line of a form, behind these lines
unfoldable pub form_fault : List Line → Form → Option LineFault
form_fault older (forms.Data name words comm) =
    data_fault (stage_of older) (datum_names older) name words comm
form_fault older (forms.Task name cost) =
    task_fault (stage_of older) (task_names older) name cost
form_fault older (forms.Reads names) =
    reads_fault (stage_of older) (datum_names older) (all_reads older) names
form_fault older (forms.Writes names) =
    writes_fault (stage_of older) (datum_names older) (written older) names
form_fault older forms.End =
    end_fault (stage_of older) (last_statements older) (all_work older)
form_fault older (forms.Print name) =
    print_fault (stage_of older) (datum_names older) (prints older) name

-- a line, behind these lines
unfoldable pub fault_behind : List Line → Line → Option LineFault
fault_behind older Blank = None
fault_behind older (Plain form) = form_fault older form
fault_behind older (Statement line) =
    unless (not (is_outside (stage_of older))) Text
    (statement_fault (last_reads older) (last_writes older) (all_nodes older)
    (last_statements older) line)

-- none of these lines is faulty behind those before it; the newest stands first
abbrev pub AllPass : List Line → Type 0
AllPass [] = ⊤
AllPass (line ∷ older) = AllPass older × (fault_behind older line ≡ None)
