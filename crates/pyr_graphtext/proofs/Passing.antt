-- What a line without fault keeps to.
use Rattle.std.proofs.Common.{◌≡◌, ℕ, ◌+◌, ◌<◌, ◌≤◌, Bool, true, false, List, [], ◌∷◌, length, arith, refl, Some, None, Option, ltb-true, leb-true}
use Rattle.std.specs.Prelude.{nat_le, ⊤}
use Rattle.std.proofs.lemmas.Bool.{not-true, and_parts}
use Rattle.pyr_num.specs.declared.limits.TheConstants.Limits.{TASKS, DATUMS, LEAST_LENGTH, LENGTH, COMM, LEAST_COST, COST, READS, ALL_READS, WRITES, NODES, ALL_NODES, WORK, ALL_WORK, PRINTS}
use Rattle.pyr_num.specs.declared.name.Name.{Name}
use Rattle.pyr_body.specs.Written.{WrittenLine, Set, Put, For, Done, written_nodes, written_line_nodes}
use Rattle.pyr_graphtext.specs.declared.line_fault.LineFault.{LineFault}
use Rattle.pyr_graphtext.specs.declared.form.Form.TheVariants as forms
use Rattle.pyr_graphtext.specs.declared.stage.Stage.{Stage}
use Rattle.pyr_graphtext.specs.Line.{Line, Plain, Statement}
use Rattle.pyr_graphtext.specs.Statements.{unless, unless_nodes_fit, is_among, nodes_of, open_counts, work_of, statement_fault}
use Rattle.pyr_graphtext.specs.Earlier.{stage_of, datum_names, task_names, last_reads, last_writes, last_statements, written, prints, all_reads, all_nodes, all_work}
use Rattle.pyr_graphtext.specs.Faults.{is_outside, may_read, may_write, is_some_name, data_fault, task_fault, read_names_fault, reads_fault, written_names_fault, writes_fault, end_fault, print_fault, form_fault, fault_behind}
use Rattle.pyr_graphtext.proofs.NameLemmas.{AreAmong, AreNew}

-- a test that is passed
unless_passed : (test : Bool) (fault : LineFault) (others : Option LineFault) → unless test fault others ≡ None → (test ≡ true) × (others ≡ None)
unless_passed true fault others none = (refl, none)
unless_passed false fault others none = absurd (let both : Some fault ≡ None = none in cc)

-- of a line `data`
pub record DataPass (stage : Stage) (datums : List Name) (name : Name) (words comm : ℕ) : Type 0 where
  pub outside : is_outside stage ≡ true
  pub room : length datums < DATUMS
  pub least : LEAST_LENGTH ≤ words
  pub most : words ≤ LENGTH
  pub light : comm ≤ COMM
  pub new : is_among datums name ≡ false

pub data_passes : (stage : Stage) (datums : List Name) (name : Name) (words comm : ℕ) → data_fault stage datums name words comm ≡ None → DataPass stage datums name words comm
unfolding data_fault
data_passes stage datums name words comm none =
    let (outside, a) = unless_passed _ _ _ none in
    let (room, b) = unless_passed _ _ _ a in
    let (long, c) = unless_passed _ _ _ b in
    let (light, d) = unless_passed _ _ _ c in
    let (new, e) = unless_passed _ _ _ d in
    let (least, most) = and_parts (nat_le LEAST_LENGTH words) (nat_le words LENGTH) long in
    record {
      outside = outside;
      room = ltb-true (length datums) DATUMS room;
      least = leb-true LEAST_LENGTH words least;
      most = leb-true words LENGTH most;
      light = leb-true comm COMM light;
      new = not-true (is_among datums name) new;
    }

-- of a line `task`
pub record TaskPass (stage : Stage) (tasks : List Name) (name : Name) (cost : ℕ) : Type 0 where
  pub outside : is_outside stage ≡ true
  pub room : length tasks < TASKS
  pub least : LEAST_COST ≤ cost
  pub most : cost ≤ COST
  pub new : is_among tasks name ≡ false

pub task_passes : (stage : Stage) (tasks : List Name) (name : Name) (cost : ℕ) → task_fault stage tasks name cost ≡ None → TaskPass stage tasks name cost
unfolding task_fault
task_passes stage tasks name cost none =
    let (outside, a) = unless_passed _ _ _ none in
    let (room, b) = unless_passed _ _ _ a in
    let (fit, c) = unless_passed _ _ _ b in
    let (new, d) = unless_passed _ _ _ c in
    let (least, most) = and_parts (nat_le LEAST_COST cost) (nat_le cost COST) fit in
    record {
      outside = outside;
      room = ltb-true (length tasks) TASKS room;
      least = leb-true LEAST_COST cost least;
      most = leb-true cost COST most;
      new = not-true (is_among tasks name) new;
    }

read_names_pass : (datums names : List Name) → read_names_fault datums names ≡ None → AreAmong datums names × AreNew names
read_names_pass datums [] none = (tt, tt)
read_names_pass datums (name ∷ later) none =
    let (known, a) = unless_passed _ _ _ none in
    let (new, b) = unless_passed _ _ _ a in
    let (all, rest) = read_names_pass datums later b in
    ((known, all), (not-true (is_among later name) new, rest))

-- of a line `reads`
pub record ReadsPass (stage : Stage) (datums : List Name) (all_reads : ℕ) (names : List Name) : Type 0 where
  pub may : may_read stage ≡ true
  pub few : length names ≤ READS
  pub few_in_all : all_reads + length names ≤ ALL_READS
  pub known : AreAmong datums names
  pub new : AreNew names

pub reads_pass : (stage : Stage) (datums : List Name) (all_reads : ℕ) (names : List Name) → reads_fault stage datums all_reads names ≡ None → ReadsPass stage datums all_reads names
unfolding reads_fault
reads_pass stage datums all_reads names none =
    let (may, a) = unless_passed _ _ _ none in
    let (few, b) = unless_passed _ _ _ a in
    let (few_in_all, c) = unless_passed _ _ _ b in
    let (known, new) = read_names_pass datums names c in
    record {
      may = (and_parts (may_read stage) (is_some_name names) may).0;
      few = leb-true (length names) READS few;
      few_in_all = leb-true (all_reads + length names) ALL_READS few_in_all;
      known = known;
      new = new;
    }

-- none of the names is one of these
abbrev pub AreNoneOf : List Name → List Name → Type 0
AreNoneOf others [] = ⊤
AreNoneOf others (name ∷ names) = (is_among others name ≡ false) × AreNoneOf others names

written_names_pass : (datums others names : List Name) → written_names_fault datums others names ≡ None → AreAmong datums names × AreNew names × AreNoneOf others names
written_names_pass datums others [] none = (tt, tt, tt)
written_names_pass datums others (name ∷ later) none =
    let (known, a) = unless_passed _ _ _ none in
    let (new, b) = unless_passed _ _ _ a in
    let (free, c) = unless_passed _ _ _ b in
    let (all, rest, apart) = written_names_pass datums others later c in
    ((known, all), (not-true (is_among later name) new, rest), (not-true (is_among others name) free, apart))

-- of a line `writes`
pub record WritesPass (stage : Stage) (datums others names : List Name) : Type 0 where
  pub may : may_write stage ≡ true
  pub few : length names ≤ WRITES
  pub known : AreAmong datums names
  pub new : AreNew names
  pub free : AreNoneOf others names

pub writes_pass : (stage : Stage) (datums others names : List Name) → writes_fault stage datums others names ≡ None → WritesPass stage datums others names
unfolding writes_fault
writes_pass stage datums others names none =
    let (may, a) = unless_passed _ _ _ none in
    let (few, b) = unless_passed _ _ _ a in
    let (known, new, free) = written_names_pass datums others names b in
    record {
      may = (and_parts (may_write stage) (is_some_name names) may).0;
      few = leb-true (length names) WRITES few;
      known = known;
      new = new;
      free = free;
    }

-- of a line `end`
pub record EndPass (stage : Stage) (lines : List WrittenLine) (all_work : ℕ) : Type 0 where
  pub inside : is_outside stage ≡ false
  pub closed : length (open_counts lines) ≡ 0
  pub work : work_of lines ≤ WORK
  pub work_in_all : all_work + work_of lines ≤ ALL_WORK

pub end_passes : (stage : Stage) (lines : List WrittenLine) (all_work : ℕ) → end_fault stage lines all_work ≡ None → EndPass stage lines all_work
unfolding end_fault
end_passes stage lines all_work none =
    let (inside, a) = unless_passed _ _ _ none in
    let (closed, b) = unless_passed _ _ _ a in
    let (work, c) = unless_passed _ _ _ b in
    let (more, d) = unless_passed _ _ _ c in
    let no_more : length (open_counts lines) ≤ 0 = leb-true (length (open_counts lines)) 0 closed in
    record {
      inside = not-true (is_outside stage) inside;
      closed = omega arith;
      work = leb-true (work_of lines) WORK work;
      work_in_all = leb-true (all_work + work_of lines) ALL_WORK more;
    }

-- of a line `print`
pub record PrintPass (stage : Stage) (datums prints : List Name) (name : Name) : Type 0 where
  pub outside : is_outside stage ≡ true
  pub room : length prints < PRINTS
  pub known : is_among datums name ≡ true
  pub new : is_among prints name ≡ false

pub print_passes : (stage : Stage) (datums prints : List Name) (name : Name) → print_fault stage datums prints name ≡ None → PrintPass stage datums prints name
unfolding print_fault
print_passes stage datums prints name none =
    let (outside, a) = unless_passed _ _ _ none in
    let (room, b) = unless_passed _ _ _ a in
    let (known, c) = unless_passed _ _ _ b in
    let (new, d) = unless_passed _ _ _ c in
    record {
      outside = outside;
      room = ltb-true (length prints) PRINTS room;
      known = known;
      new = not-true (is_among prints name) new;
    }

nodes_pass : (nodes all_nodes added : ℕ) (others : Option LineFault) → unless_nodes_fit nodes all_nodes added others ≡ None → (nodes + added ≤ NODES) × (all_nodes + added ≤ ALL_NODES)
nodes_pass nodes all_nodes added others none =
    let (few, a) = unless_passed _ _ _ none in
    let (few_in_all, b) = unless_passed _ _ _ a in
    (leb-true (nodes + added) NODES few, leb-true (all_nodes + added) ALL_NODES few_in_all)

-- of a line of a body, where the nodes before are within their limit
pub statement_passes : (reads writes : List Name) (all_nodes : ℕ) (older : List WrittenLine) (line : WrittenLine) → all_nodes ≤ ALL_NODES
    → statement_fault reads writes all_nodes older line ≡ None → all_nodes + written_line_nodes line ≤ ALL_NODES
unfolding statement_fault
statement_passes reads writes all_nodes older (Set name e) few none =
    (nodes_pass (nodes_of older) all_nodes (1 + written_nodes e) _ none).1
statement_passes reads writes all_nodes older (Put name index e) few none =
    (nodes_pass (nodes_of older) all_nodes (1 + written_nodes index + written_nodes e) _ none).1
statement_passes reads writes all_nodes older (For name count) few none =
    (nodes_pass (nodes_of older) all_nodes 1 _ none).1
statement_passes reads writes all_nodes older Done few none = omega arith

-- the same of a line, by the lines behind it
module _ (older : List Line) where
  pub data_line : (name : Name) (words comm : ℕ) → fault_behind older (Plain (forms.Data name words comm)) ≡ None → DataPass (stage_of older) (datum_names older) name words comm
  unfolding fault_behind form_fault
  data_line name words comm none = data_passes (stage_of older) (datum_names older) name words comm none

  pub task_line : (name : Name) (cost : ℕ) → fault_behind older (Plain (forms.Task name cost)) ≡ None → TaskPass (stage_of older) (task_names older) name cost
  unfolding fault_behind form_fault
  task_line name cost none = task_passes (stage_of older) (task_names older) name cost none

  pub reads_line : (names : List Name) → fault_behind older (Plain (forms.Reads names)) ≡ None → ReadsPass (stage_of older) (datum_names older) (all_reads older) names
  unfolding fault_behind form_fault
  reads_line names none = reads_pass (stage_of older) (datum_names older) (all_reads older) names none

  pub writes_line : (names : List Name) → fault_behind older (Plain (forms.Writes names)) ≡ None → WritesPass (stage_of older) (datum_names older) (written older) names
  unfolding fault_behind form_fault
  writes_line names none = writes_pass (stage_of older) (datum_names older) (written older) names none

  pub end_line : fault_behind older (Plain forms.End) ≡ None → EndPass (stage_of older) (last_statements older) (all_work older)
  unfolding fault_behind form_fault
  end_line none = end_passes (stage_of older) (last_statements older) (all_work older) none

  pub print_line : (name : Name) → fault_behind older (Plain (forms.Print name)) ≡ None → PrintPass (stage_of older) (datum_names older) (prints older) name
  unfolding fault_behind form_fault
  print_line name none = print_passes (stage_of older) (datum_names older) (prints older) name none

  -- a line of a body stands within a task
  pub statement_inside : (line : WrittenLine) → fault_behind older (Statement line) ≡ None → is_outside (stage_of older) ≡ false
  unfolding fault_behind
  statement_inside line none = not-true (is_outside (stage_of older)) (unless_passed _ _ _ none).0

  pub statement_nodes : (line : WrittenLine) → all_nodes older ≤ ALL_NODES → fault_behind older (Statement line) ≡ None → all_nodes older + written_line_nodes line ≤ ALL_NODES
  unfolding fault_behind
  statement_nodes line few none =
      statement_passes (last_reads older) (last_writes older) (all_nodes older) (last_statements older) line few (unless_passed _ _ _ none).1
