-- The state that follows earlier lines follows them with a line of a form more.
use Rattle.std.proofs.Common.{◌≡◌, ℕ, ◌+◌, true, false, List, [], ◌∷◌, ◌++◌, length, Option, Some, None, Result, Ok, Err, refl, sym, ap, subst, ◌∙◌, arith}
use Rattle.std.specs.Prelude.{OnOk}
use Rattle.std.specs.Option.{option_map}
use Rattle.pyr_num.specs.declared.name.Name.{Name}
use Rattle.pyr_body.specs.Written.{WrittenLine}
use Rattle.pyr_body.specs.Taking.{no_lines}
use Rattle.pyr_graph.specs.declared.parts.DatumParts.{DatumParts}
use Rattle.pyr_graphtext.specs.declared.form.Form.{Form}
use Rattle.pyr_graphtext.specs.declared.form.Form.TheVariants as forms
use Rattle.pyr_graphtext.specs.declared.line_fault.LineFault.{LineFault}
use Rattle.pyr_graphtext.specs.declared.line_fault.LineFault.TheVariants.{Text, Limit, Names, Memory}
use Rattle.pyr_graphtext.specs.declared.open_task.OpenTask.{OpenTask}
use Rattle.pyr_graphtext.specs.declared.open_part.OpenPart.{OpenPart}
use Rattle.pyr_graphtext.specs.declared.open_part.OpenPart.TheVariants.{AfterTask, AfterReads, InBody}
use Rattle.pyr_graphtext.specs.declared.stage.Stage.TheVariants as stages
use Rattle.pyr_graphtext.specs.Line.{Line, Plain}
use Rattle.pyr_graphtext.specs.Statements.{nodes_of}
use Rattle.pyr_graphtext.specs.Stands.{Stands}
use Rattle.pyr_graphtext.specs.Earlier.{stage_of, last_reads, last_statements, datum_ids, all_nodes}
use Rattle.pyr_graphtext.specs.Faults.{is_outside, may_read, may_write, data_fault, task_fault, reads_fault, writes_fault, print_fault, form_fault, fault_behind}
use Rattle.pyr_graphtext.specs.Tells.{Tells}
use Rattle.pyr_graphtext.specs.State.{State, stage_of_part, reads_in, stage_in, FollowsPart, FollowsTask, FollowsOpen, Follows}
use Rattle.pyr_graphtext.specs.Taking.{with_datum, with_task, task_reading, with_reads, task_writing, with_writes, with_print, TakesForm}
use Rattle.pyr_graphtext.proofs.Passing.{data_line, task_line, reads_line, writes_line, print_line}
use Rattle.pyr_graphtext.proofs.StatementLemmas.{stands_none}

-- what a test answers, and what it does where it finds no fault
pub takes : {X : Type 0} (r : Result X LineFault) (old new : State) (form : Form) (fault : Option LineFault)
    → Tells r fault → ((said : List Line) → Follows said old → form_fault said form ≡ fault)
    → OnOk r ((said : List Line) → Follows said old → form_fault said form ≡ None → Follows (Plain form ∷ said) new)
    → TakesForm old form r new
takes (Ok x) old new form fault told same grows = λ said f. (same said f ∙ told, grows said f (same said f ∙ told))
takes (Err Memory) old new form fault told same grows = tt
takes (Err Text) old new form fault told same grows = λ said f. same said f ∙ told
takes (Err (Limit which)) old new form fault told same grows = λ said f. same said f ∙ told
takes (Err (Names kind name)) old new form fault told same grows = λ said f. same said f ∙ told

-- what a state does that is this one, on an answer without fault
pub on_ok : {X : Type 0} (r : Result X LineFault) (new to : State) (form : Form) (old : State) → OnOk r (new ≡ to)
    → ((said : List Line) → Follows said old → form_fault said form ≡ None → Follows (Plain form ∷ said) to)
    → OnOk r ((said : List Line) → Follows said old → form_fault said form ≡ None → Follows (Plain form ∷ said) new)
on_ok (Ok x) new to form old is grows = λ said f fine. subst (λ (s : State). Follows (Plain form ∷ said) s) (sym is) (grows said f fine)
on_ok (Err e) new to form old is grows = tt

-- the stage that the lines say is that of the state
pub stage_is : (said : List Line) (old : State) → Follows said old → stage_of said ≡ stage_in old.open_task
stage_is said old f = by_task old.open_task f.open_task where
  by_task : (o : Option OpenTask) → FollowsOpen said old.nodes o → stage_of said ≡ stage_in o
  by_task None h = h.0
  by_task (Some task) h = h.stage

pub inside : (part : OpenPart) → is_outside (stage_of_part part) ≡ false
inside AfterTask = refl
inside (AfterReads names) = refl
inside (InBody reader) = refl

-- outside tasks no task is open
pub none_open : (said : List Line) (nodes : ℕ) (o : Option OpenTask) → FollowsOpen said nodes o → is_outside (stage_of said) ≡ true
    → (o ≡ None) × (stage_of said ≡ stages.Outside) × (all_nodes said ≡ nodes)
none_open said nodes None h outside = (refl, h.0, h.1)
none_open said nodes (Some task) h outside = absurd (let e : false ≡ true = sym (inside task.part) ∙ ap is_outside (sym h.stage) ∙ outside in cc)

-- where `reads` may stand, a task is open, and it was just begun
pub begun : (said : List Line) (nodes : ℕ) (o : Option OpenTask) → FollowsOpen said nodes o → may_read (stage_of said) ≡ true
    → (task : OpenTask) × (o ≡ Some task) × FollowsTask said nodes task × (task.part ≡ AfterTask)
begun said nodes None h may = absurd (let e : false ≡ true = ap may_read (sym h.0) ∙ may in cc)
begun said nodes (Some task) h may = (task, refl, h, by_part task.part refl) where
  by_part : (p : OpenPart) → task.part ≡ p → task.part ≡ AfterTask
  by_part AfterTask e = e
  by_part (AfterReads names) e = absurd (let x : false ≡ true = ap may_read (sym (h.stage ∙ ap stage_of_part e)) ∙ may in cc)
  by_part (InBody reader) e = absurd (let x : false ≡ true = ap may_read (sym (h.stage ∙ ap stage_of_part e)) ∙ may in cc)

-- where `writes` may stand, a task is open, and no line of its body came
pub headed : (said : List Line) (nodes : ℕ) (o : Option OpenTask) → FollowsOpen said nodes o → may_write (stage_of said) ≡ true
    → (task : OpenTask) × (o ≡ Some task) × FollowsTask said nodes task
    × (last_reads said ≡ reads_in task.part) × (last_statements said ≡ []) × (all_nodes said ≡ nodes)
headed said nodes None h may = absurd (let e : false ≡ true = ap may_write (sym h.0) ∙ may in cc)
headed said nodes (Some task) h may = by_part task.part refl h.part where
  by_part : (p : OpenPart) → task.part ≡ p → FollowsPart said nodes p
      → (t : OpenTask) × (Some task ≡ Some t) × FollowsTask said nodes t × (last_reads said ≡ reads_in t.part) × (last_statements said ≡ []) × (all_nodes said ≡ nodes)
  by_part AfterTask e k = (task, refl, h, k.0 ∙ ap reads_in (sym e), k.2, k.3)
  by_part (AfterReads names) e k = (task, refl, h, k.0 ∙ ap reads_in (sym e), k.2, k.3)
  by_part (InBody reader) e k = absurd (let x : false ≡ true = ap may_write (sym (h.stage ∙ ap stage_of_part e)) ∙ may in cc)

-- a line of a form has the fault of its form
pub passes_plain : (said : List Line) (form : Form) → form_fault said form ≡ None → fault_behind said (Plain form) ≡ None
unfolding fault_behind
passes_plain said form fine = fine

-- a datum more
pub data_grows : (old : State) (name : Name) (words comm : ℕ) (said : List Line) → Follows said old → form_fault said (forms.Data name words comm) ≡ None
    → Follows (Plain (forms.Data name words comm) ∷ said) (with_datum old name words comm)
data_grows old name words comm said f fine =
    let pass = data_line said name words comm (passes_plain said (forms.Data name words comm) fine) in
    let none = none_open said old.nodes old.open_task f.open_task pass.outside in
    record {
      datum_names = ap (λ (ns : List Name). ns ++ name ∷ []) f.datum_names;
      datums = ap (λ (ds : List DatumParts). ds ++ record { length = words; comm = comm } ∷ []) f.datums;
      task_names = f.task_names;
      tasks = f.tasks;
      bodies = f.bodies;
      written = f.written;
      prints = f.prints;
      all_reads = f.all_reads;
      work = f.work;
      open_task = subst (FollowsOpen (Plain (forms.Data name words comm) ∷ said) old.nodes) (sym none.0) (none.1, none.2);
    }

-- a task more, which is open
pub task_grows : (old : State) (name : Name) (cost : ℕ) (said : List Line) → Follows said old → form_fault said (forms.Task name cost) ≡ None
    → Follows (Plain (forms.Task name cost) ∷ said) (with_task old name cost)
task_grows old name cost said f fine =
    let pass = task_line said name cost (passes_plain said (forms.Task name cost) fine) in
    let none = none_open said old.nodes old.open_task f.open_task pass.outside in
    record {
      datum_names = f.datum_names;
      datums = f.datums;
      task_names = ap (λ (ns : List Name). ns ++ name ∷ []) f.task_names;
      tasks = f.tasks;
      bodies = f.bodies;
      written = f.written;
      prints = f.prints;
      all_reads = f.all_reads;
      work = f.work;
      open_task = record { stage = refl; cost = refl; reads = refl; writes = refl; part = (refl, refl, refl, none.2) };
    }

-- a print more
pub print_grows : (old : State) (name : Name) (said : List Line) → Follows said old → form_fault said (forms.Print name) ≡ None
    → Follows (Plain (forms.Print name) ∷ said) (with_print old name)
print_grows old name said f fine =
    let pass = print_line said name (passes_plain said (forms.Print name) fine) in
    let none = none_open said old.nodes old.open_task f.open_task pass.outside in
    record {
      datum_names = f.datum_names;
      datums = f.datums;
      task_names = f.task_names;
      tasks = f.tasks;
      bodies = f.bodies;
      written = f.written;
      prints = ap (λ (ns : List Name). ns ++ name ∷ []) f.prints;
      all_reads = f.all_reads;
      work = f.work;
      open_task = subst (FollowsOpen (Plain (forms.Print name) ∷ said) old.nodes) (sym none.0) (none.1, none.2);
    }

-- the reads of the open task
pub reads_grow : (old : State) (names : List Name) (said : List Line) → Follows said old → form_fault said (forms.Reads names) ≡ None
    → Follows (Plain (forms.Reads names) ∷ said) (with_reads old names)
reads_grow old names said f fine =
    let pass = reads_line said names (passes_plain said (forms.Reads names) fine) in
    let (task, is, follows, fresh) = begun said old.nodes old.open_task f.open_task pass.may in
    let part = subst (FollowsPart said old.nodes) fresh follows.part in
    let grown : FollowsTask (Plain (forms.Reads names) ∷ said) old.nodes (task_reading old.datum_names names task) = record {
      stage = refl;
      cost = follows.cost;
      reads = ap (λ (ds : List Name). datum_ids ds names) f.datum_names;
      writes = follows.writes;
      part = (refl, part.1, part.2, part.3);
    } in
    record {
      datum_names = f.datum_names;
      datums = f.datums;
      task_names = f.task_names;
      tasks = f.tasks;
      bodies = f.bodies;
      written = f.written;
      prints = f.prints;
      all_reads = ap (λ (n : ℕ). n + length names) f.all_reads;
      work = f.work;
      open_task = subst (λ (o : Option OpenTask). FollowsOpen (Plain (forms.Reads names) ∷ said) old.nodes (option_map (task_reading old.datum_names names) o)) (sym is) grown;
    }

-- the writes of the open task
pub writes_grow : (old : State) (names : List Name) (said : List Line) → Follows said old → form_fault said (forms.Writes names) ≡ None
    → Follows (Plain (forms.Writes names) ∷ said) (with_writes old names)
writes_grow old names said f fine =
    let pass = writes_line said names (passes_plain said (forms.Writes names) fine) in
    let (task, is, follows, reads, statements, nodes) = headed said old.nodes old.open_task f.open_task pass.may in
    let stands : Stands (last_reads said) names old.nodes (last_statements said) (no_lines (reads_in task.part) names old.nodes) =
    subst (λ (ws : List WrittenLine). Stands (last_reads said) names old.nodes ws (no_lines (reads_in task.part) names old.nodes)) (sym statements)
    (subst (λ (rs : List Name). Stands (last_reads said) names old.nodes [] (no_lines rs names old.nodes)) reads (stands_none (last_reads said) names old.nodes)) in
    let counted : all_nodes said ≡ old.nodes + nodes_of (last_statements said) = omega (arith, nodes, ap nodes_of statements) in
    let grown : FollowsTask (Plain (forms.Writes names) ∷ said) old.nodes (task_writing old.datum_names names old.nodes task) = record {
      stage = refl;
      cost = follows.cost;
      reads = follows.reads;
      writes = ap (λ (ds : List Name). datum_ids ds names) f.datum_names;
      part = (stands, counted);
    } in
    record {
      datum_names = f.datum_names;
      datums = f.datums;
      task_names = f.task_names;
      tasks = f.tasks;
      bodies = f.bodies;
      written = ap (λ (ns : List Name). ns ++ names) f.written;
      prints = f.prints;
      all_reads = f.all_reads;
      work = f.work;
      open_task = subst (λ (o : Option OpenTask). FollowsOpen (Plain (forms.Writes names) ∷ said) old.nodes (option_map (task_writing old.datum_names names old.nodes) o)) (sym is) grown;
    }

-- the fault of a form behind lines is that of the state that they make
pub data_same : (old : State) (name : Name) (words comm : ℕ) (said : List Line) → Follows said old
    → form_fault said (forms.Data name words comm) ≡ data_fault (stage_in old.open_task) old.datum_names name words comm
unfolding form_fault
data_same old name words comm said f = λ i. data_fault (stage_is said old f i) (f.datum_names i) name words comm

pub task_same : (old : State) (name : Name) (cost : ℕ) (said : List Line) → Follows said old
    → form_fault said (forms.Task name cost) ≡ task_fault (stage_in old.open_task) old.task_names name cost
unfolding form_fault
task_same old name cost said f = λ i. task_fault (stage_is said old f i) (f.task_names i) name cost

pub reads_same : (old : State) (names : List Name) (said : List Line) → Follows said old
    → form_fault said (forms.Reads names) ≡ reads_fault (stage_in old.open_task) old.datum_names old.all_reads names
unfolding form_fault
reads_same old names said f = λ i. reads_fault (stage_is said old f i) (f.datum_names i) (f.all_reads i) names

pub writes_same : (old : State) (names : List Name) (said : List Line) → Follows said old
    → form_fault said (forms.Writes names) ≡ writes_fault (stage_in old.open_task) old.datum_names old.written names
unfolding form_fault
writes_same old names said f = λ i. writes_fault (stage_is said old f i) (f.datum_names i) (f.written i) names

pub print_same : (old : State) (name : Name) (said : List Line) → Follows said old
    → form_fault said (forms.Print name) ≡ print_fault (stage_in old.open_task) old.datum_names old.prints name
unfolding form_fault
print_same old name said f = λ i. print_fault (stage_is said old f i) (f.datum_names i) (f.prints i) name
