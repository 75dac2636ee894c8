-- What the lines of a task say, before its body and behind it.
use Rattle.std.proofs.Common.{◌≡◌, ℕ, ◌+◌, ◌≤◌, true, false, List, [], ◌∷◌, ◌++◌, length, map, None, refl, sym, ap, ◌∙◌, arith}
use Rattle.std.proofs.lemmas.List.{append-nil}
use Rattle.pyr_num.specs.declared.limits.TheConstants.Limits.{READS, ALL_READS, WRITES, WORK, ALL_WORK}
use Rattle.pyr_num.specs.declared.name.Name.{Name}
use Rattle.pyr_body.specs.Lines.{Line as BodyLine}
use Rattle.pyr_body.specs.Named.{line_with_names}
use Rattle.pyr_body.specs.Written.{WrittenLine}
use Rattle.pyr_graphtext.specs.declared.form.Form.{Form}
use Rattle.pyr_graphtext.specs.declared.form.Form.TheVariants.{Task, Reads, Writes, End}
use Rattle.pyr_graphtext.specs.declared.stage.Stage.{Stage}
use Rattle.pyr_graphtext.specs.declared.stage.Stage.TheVariants.{Outside, AfterTask, AfterReads, InBody}
use Rattle.pyr_graphtext.specs.Line.{Line, Plain, Statement}
use Rattle.pyr_graphtext.specs.Statements.{open_counts, work_of}
use Rattle.pyr_graphtext.specs.Earlier.{stage_of, datum_names, datums, task_names, tasks, bodies, written, prints, all_reads, all_nodes, all_work, last_cost, last_reads, last_writes, last_statements}
use Rattle.pyr_graphtext.specs.Faults.{is_outside, may_read, may_write, is_some_name, read_names_fault, written_names_fault, end_fault, form_fault, fault_behind}
use Rattle.pyr_graphtext.specs.Canonical.{names_line, task_end}
use Rattle.pyr_graphtext.proofs.LinesRead.{after, Pass}
use Rattle.pyr_graphtext.proofs.FormPasses.{reads_pass, writes_pass, end_passes}
use Rattle.pyr_graphtext.proofs.BodyRead.{kept, IsWithin}

-- a line of a form has the fault of that form
pub form_passes : (said : List Line) (f : Form) → form_fault said f ≡ None → fault_behind said (Plain f) ≡ None
unfolding fault_behind
form_passes said f fine = fine

not_true : false ≡ true → ⊥
not_true e = cc

end_form : (said : List Line) (lines : List WrittenLine) (work : ℕ) → last_statements said ≡ lines → all_work said ≡ work → end_fault (stage_of said) lines work ≡ None → form_fault said End ≡ None
unfolding form_fault
end_form said lines work e f fine = rw (e, f) fine

-- what is said behind the line of a task that reads and writes these data, and not yet of its body
pub record IsOpen (cost : ℕ) (name : Name) (before said : List Line) (reads writes : List Name) : Type 0 where
  pub names_kept : datum_names said ≡ datum_names before
  pub datums_kept : datums said ≡ datums before
  pub tasks_kept : tasks said ≡ tasks before
  pub bodies_kept : bodies said ≡ bodies before
  pub prints_kept : prints said ≡ prints before
  pub nodes_kept : all_nodes said ≡ all_nodes before
  pub work_kept : all_work said ≡ all_work before
  pub task_names_more : task_names said ≡ task_names before ++ name ∷ []
  pub reads_more : all_reads said ≡ all_reads before + length reads
  pub written_more : written said ≡ written before ++ writes
  pub cost_is : last_cost said ≡ cost
  pub reads_are : last_reads said ≡ reads
  pub writes_are : last_writes said ≡ writes
  pub lines_are : last_statements said ≡ []

-- behind the line `task`
pub opened : (cost : ℕ) (name : Name) (before : List Line) → IsOpen cost name before (Plain (Task name cost) ∷ before) [] []
opened cost name before = record {
  names_kept = refl;
  datums_kept = refl;
  tasks_kept = refl;
  bodies_kept = refl;
  prints_kept = refl;
  nodes_kept = refl;
  work_kept = refl;
  task_names_more = refl;
  reads_more = omega arith;
  written_more = sym (append-nil (written before));
  cost_is = refl;
  reads_are = refl;
  writes_are = refl;
  lines_are = refl;
}

-- behind the line of the data that it reads
pub record HasReads (cost : ℕ) (name : Name) (before said : List Line) (names : List Name) : Type 0 where
  pub pass : Pass said (names_line Reads names)
  pub stage : may_write (stage_of (after said (names_line Reads names))) ≡ true
  pub state : IsOpen cost name before (after said (names_line Reads names)) names []

reads_fine : (cost : ℕ) (name : Name) (before said : List Line) (names : List Name) → IsOpen cost name before said [] []
    → may_read (stage_of said) ≡ true → is_some_name names ≡ true
    → length names ≤ READS → all_reads before + length names ≤ ALL_READS → read_names_fault (datum_names before) names ≡ None
    → form_fault said (Reads names) ≡ None
unfolding form_fault
reads_fine cost name before said names o may some few all fine =
    let sum : all_reads said ≡ all_reads before = omega (arith, o.reads_more) in
    rw (o.names_kept, sum) (reads_pass (stage_of said) (datum_names before) (all_reads before) names may some few all fine)

pub reads_read : (cost : ℕ) (name : Name) (before said : List Line) (names : List Name) → IsOpen cost name before said [] []
    → may_read (stage_of said) ≡ true → may_write (stage_of said) ≡ true
    → length names ≤ READS → all_reads before + length names ≤ ALL_READS → read_names_fault (datum_names before) names ≡ None
    → HasReads cost name before said names
reads_read cost name before said [] o may may_also few all fine = record { pass = tt; stage = may_also; state = o }
reads_read cost name before said (n ∷ names) o may may_also few all fine = record {
  pass = (form_passes said (Reads (n ∷ names)) (reads_fine cost name before said (n ∷ names) o may refl few all fine), (λ s. absurd (not_true s)), tt);
  stage = refl;
  state = record {
    names_kept = o.names_kept;
    datums_kept = o.datums_kept;
    tasks_kept = o.tasks_kept;
    bodies_kept = o.bodies_kept;
    prints_kept = o.prints_kept;
    nodes_kept = o.nodes_kept;
    work_kept = o.work_kept;
    task_names_more = o.task_names_more;
    reads_more = omega (arith, o.reads_more);
    written_more = o.written_more;
    cost_is = o.cost_is;
    reads_are = refl;
    writes_are = o.writes_are;
    lines_are = o.lines_are;
  };
}

-- behind the line of the data that it writes
pub record HasWrites (cost : ℕ) (name : Name) (before said : List Line) (reads names : List Name) : Type 0 where
  pub pass : Pass said (names_line Writes names)
  pub stage : is_outside (stage_of (after said (names_line Writes names))) ≡ false
  pub state : IsOpen cost name before (after said (names_line Writes names)) reads names

writes_fine : (cost : ℕ) (name : Name) (before said : List Line) (reads names : List Name) → IsOpen cost name before said reads []
    → may_write (stage_of said) ≡ true → is_some_name names ≡ true
    → length names ≤ WRITES → written_names_fault (datum_names before) (written before) names ≡ None
    → form_fault said (Writes names) ≡ None
unfolding form_fault
writes_fine cost name before said reads names o may some few fine =
    let same : written said ≡ written before = o.written_more ∙ append-nil (written before) in
    rw (o.names_kept, same) (writes_pass (stage_of said) (datum_names before) (written before) names may some few fine)

may_write_inside : (stage : Stage) → may_write stage ≡ true → is_outside stage ≡ false
may_write_inside Outside e = absurd (not_true e)
may_write_inside AfterTask e = refl
may_write_inside AfterReads e = refl
may_write_inside InBody e = refl

pub writes_read : (cost : ℕ) (name : Name) (before said : List Line) (reads names : List Name) → IsOpen cost name before said reads []
    → may_write (stage_of said) ≡ true
    → length names ≤ WRITES → written_names_fault (datum_names before) (written before) names ≡ None
    → HasWrites cost name before said reads names
writes_read cost name before said reads [] o may few fine = record { pass = tt; stage = may_write_inside (stage_of said) may; state = o }
writes_read cost name before said reads (n ∷ names) o may few fine = record {
  pass = (form_passes said (Writes (n ∷ names)) (writes_fine cost name before said reads (n ∷ names) o may refl few fine), (λ s. absurd (not_true s)), tt);
  stage = refl;
  state = record {
    names_kept = o.names_kept;
    datums_kept = o.datums_kept;
    tasks_kept = o.tasks_kept;
    bodies_kept = o.bodies_kept;
    prints_kept = o.prints_kept;
    nodes_kept = o.nodes_kept;
    work_kept = o.work_kept;
    task_names_more = o.task_names_more;
    reads_more = o.reads_more;
    written_more = ap (λ (ns : List Name). ns ++ n ∷ names) (o.written_more ∙ append-nil (written before));
    cost_is = o.cost_is;
    reads_are = o.reads_are;
    writes_are = refl;
    lines_are = o.lines_are;
  };
}

-- behind the lines of the body
pub record HasBody (cost : ℕ) (name : Name) (before said : List Line) (reads writes : List Name) (lines : List WrittenLine) : Type 0 where
  pub names_kept : datum_names said ≡ datum_names before
  pub datums_kept : datums said ≡ datums before
  pub tasks_kept : tasks said ≡ tasks before
  pub bodies_kept : bodies said ≡ bodies before
  pub prints_kept : prints said ≡ prints before
  pub work_kept : all_work said ≡ all_work before
  pub task_names_more : task_names said ≡ task_names before ++ name ∷ []
  pub reads_more : all_reads said ≡ all_reads before + length reads
  pub written_more : written said ≡ written before ++ writes
  pub cost_is : last_cost said ≡ cost
  pub within : IsWithin reads writes (all_nodes before) said lines

pub body_read : (cost : ℕ) (name : Name) (before said : List Line) (locals reads writes : List Name) (xs : List BodyLine) (lines : List WrittenLine) → IsOpen cost name before said reads writes
    → IsWithin reads writes (all_nodes before) (after said (map (λ x. Statement (line_with_names locals reads writes x)) xs)) lines
    → HasBody cost name before (after said (map (λ x. Statement (line_with_names locals reads writes x)) xs)) reads writes lines
body_read cost name before said locals reads writes xs lines o within =
    let g : BodyLine → WrittenLine = line_with_names locals reads writes in
    record {
      names_kept = kept datum_names (λ w older. refl) g said xs ∙ o.names_kept;
      datums_kept = kept datums (λ w older. refl) g said xs ∙ o.datums_kept;
      tasks_kept = kept tasks (λ w older. refl) g said xs ∙ o.tasks_kept;
      bodies_kept = kept bodies (λ w older. refl) g said xs ∙ o.bodies_kept;
      prints_kept = kept prints (λ w older. refl) g said xs ∙ o.prints_kept;
      work_kept = kept all_work (λ w older. refl) g said xs ∙ o.work_kept;
      task_names_more = kept task_names (λ w older. refl) g said xs ∙ o.task_names_more;
      reads_more = kept all_reads (λ w older. refl) g said xs ∙ o.reads_more;
      written_more = kept written (λ w older. refl) g said xs ∙ o.written_more;
      cost_is = kept last_cost (λ w older. refl) g said xs ∙ o.cost_is;
      within = within;
    }

pub open_within : (cost : ℕ) (name : Name) (before said : List Line) (reads writes : List Name) → IsOpen cost name before said reads writes → is_outside (stage_of said) ≡ false
    → IsWithin reads writes (all_nodes before) said []
open_within cost name before said reads writes o inside = record {
  inside = inside;
  reads_are = o.reads_are;
  writes_are = o.writes_are;
  lines_are = o.lines_are;
  nodes_are = omega (arith, o.nodes_kept);
}

-- the line `end` passes
pub end_read : (cost : ℕ) (name : Name) (before said : List Line) (reads writes : List Name) (lines : List WrittenLine) → HasBody cost name before said reads writes lines
    → length (open_counts lines) ≤ 0 → work_of lines ≤ WORK → all_work before + work_of lines ≤ ALL_WORK
    → Pass said (task_end ∷ [])
end_read cost name before said reads writes lines h closed few all =
    (form_passes said End end_fine, (λ s. absurd (not_true s)), tt)
  where
    end_fine : form_fault said End ≡ None
    end_fine = end_form said lines (all_work before) h.within.lines_are h.work_kept (end_passes (stage_of said) lines (all_work before) h.within.inside closed few all)
