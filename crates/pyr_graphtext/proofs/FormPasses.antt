-- When a line of a form has no fault.
use Rattle.std.proofs.Common.{◌≡◌, ℕ, ◌+◌, ◌<◌, ◌≤◌, true, false, List, length, None, refl}
use Rattle.std.proofs.lemmas.Bool.{lt-ltb, le-leb}
use Rattle.pyr_num.specs.declared.limits.TheConstants.Limits.{TASKS, DATUMS, LEAST_LENGTH, LENGTH, COMM, LEAST_COST, COST, READS, ALL_READS, WRITES, WORK, ALL_WORK, PRINTS}
use Rattle.pyr_num.specs.declared.name.Name.{Name}
use Rattle.pyr_body.specs.Written.{WrittenLine}
use Rattle.pyr_graphtext.specs.declared.stage.Stage.{Stage}
use Rattle.pyr_graphtext.specs.Statements.{is_among, open_counts, work_of}
use Rattle.pyr_graphtext.specs.Faults.{is_outside, may_read, may_write, is_some_name, read_names_fault, written_names_fault, data_fault, task_fault, reads_fault, writes_fault, end_fault, print_fault}

pub data_passes : (stage : Stage) (datums : List Name) (name : Name) (words comm : ℕ)
    → is_outside stage ≡ true → length datums < DATUMS → LEAST_LENGTH ≤ words → words ≤ LENGTH → comm ≤ COMM → is_among datums name ≡ false
    → data_fault stage datums name words comm ≡ None
unfolding data_fault
data_passes stage datums name words comm outside few some short light new =
    rw (outside, lt-ltb (length datums) DATUMS few, le-leb LEAST_LENGTH words some, le-leb words LENGTH short, le-leb comm COMM light, new) refl

pub task_passes : (stage : Stage) (tasks : List Name) (name : Name) (cost : ℕ)
    → is_outside stage ≡ true → length tasks < TASKS → LEAST_COST ≤ cost → cost ≤ COST → is_among tasks name ≡ false
    → task_fault stage tasks name cost ≡ None
unfolding task_fault
task_passes stage tasks name cost outside few some light new =
    rw (outside, lt-ltb (length tasks) TASKS few, le-leb LEAST_COST cost some, le-leb cost COST light, new) refl

pub reads_pass : (stage : Stage) (datums : List Name) (all_reads : ℕ) (names : List Name)
    → may_read stage ≡ true → is_some_name names ≡ true → length names ≤ READS → all_reads + length names ≤ ALL_READS → read_names_fault datums names ≡ None
    → reads_fault stage datums all_reads names ≡ None
unfolding reads_fault
reads_pass stage datums all_reads names may some few all fine =
    rw (may, some, le-leb (length names) READS few, le-leb (all_reads + length names) ALL_READS all) fine

pub writes_pass : (stage : Stage) (datums others names : List Name)
    → may_write stage ≡ true → is_some_name names ≡ true → length names ≤ WRITES → written_names_fault datums others names ≡ None
    → writes_fault stage datums others names ≡ None
unfolding writes_fault
writes_pass stage datums others names may some few fine =
    rw (may, some, le-leb (length names) WRITES few) fine

pub end_passes : (stage : Stage) (lines : List WrittenLine) (all_work : ℕ)
    → is_outside stage ≡ false → length (open_counts lines) ≤ 0 → work_of lines ≤ WORK → all_work + work_of lines ≤ ALL_WORK
    → end_fault stage lines all_work ≡ None
unfolding end_fault
end_passes stage lines all_work inside closed few all =
    rw (inside, le-leb (length (open_counts lines)) 0 closed, le-leb (work_of lines) WORK few, le-leb (all_work + work_of lines) ALL_WORK all) refl

pub print_passes : (stage : Stage) (datums prints : List Name) (name : Name)
    → is_outside stage ≡ true → length prints < PRINTS → is_among datums name ≡ true → is_among prints name ≡ false
    → print_fault stage datums prints name ≡ None
unfolding print_fault
print_passes stage datums prints name outside few known new =
    rw (outside, lt-ltb (length prints) PRINTS few, known, new) refl
