-- The end of a task: its body, and what is wrong with it.
use Rattle.std.proofs.Common.{◌≡◌, ℕ, ◌+◌, ◌-◌, ◌≤◌, ◌<◌, true, false, List, [], ◌∷◌, ◌++◌, length, Option, Some, None, Result, Ok, Err, refl, sym, ap, subst, ◌∙◌, inl, inr, arith, length-append}
use Rattle.std.specs.Prelude.{OnOk, nat_le, ◌⊎◌}
use Rattle.std.specs.List.{AllZip}
use Rattle.std.proofs.lemmas.Bool.{cases_lt, le-leb, lt-leb}
use Rattle.pyr_num.specs.declared.limits.Quantity.TheVariants as quantities
use Rattle.pyr_num.specs.declared.limits.TheConstants.Limits.{WORK, ALL_NODES, ALL_WORK}
use Rattle.pyr_num.specs.declared.name.Name.{Name}
use Rattle.pyr_body.specs.declared.line_fault.LineFault.{LineFault as BodyFault}
use Rattle.pyr_body.specs.declared.line_fault.LineFault.TheVariants as body_faults
use Rattle.pyr_body.specs.Tree.{Statements}
use Rattle.pyr_body.specs.Lines.{lines_of, lines_nodes, loops_open}
use Rattle.pyr_body.specs.Parts.{BodyParts}
use Rattle.pyr_body.specs.Size.{statements_nodes, statements_work}
use Rattle.pyr_body.specs.Written.{WrittenLine}
use Rattle.pyr_body.specs.Taking.{LinesTaken, no_lines}
use Rattle.pyr_body.specs.Reader.{body_taken, IsEnd, EndsWith}
use Rattle.pyr_graphtext.specs.declared.form.Form.TheVariants as forms
use Rattle.pyr_graphtext.specs.declared.line_fault.LineFault.{LineFault}
use Rattle.pyr_graphtext.specs.declared.line_fault.LineFault.TheVariants.{Text, Limit, Names, Memory}
use Rattle.pyr_graphtext.specs.declared.open_task.OpenTask.{OpenTask}
use Rattle.pyr_graphtext.specs.declared.closed_task.ClosedTask.{ClosedTask}
use Rattle.pyr_graphtext.specs.declared.open_part.OpenPart.{OpenPart}
use Rattle.pyr_graphtext.specs.declared.open_part.OpenPart.TheVariants.{AfterTask, AfterReads, InBody}
use Rattle.pyr_graphtext.specs.Line.{Line, Plain}
use Rattle.pyr_graphtext.specs.Statements.{IsBodyOf, unless, open_counts, nodes_of, work_of, numbered_lines}
use Rattle.pyr_graphtext.specs.Stands.{Stands}
use Rattle.pyr_graphtext.specs.BodyFaults.{told_by_body}
use Rattle.pyr_graphtext.specs.Earlier.{last_reads, last_writes, last_statements, last_task, last_body, bodies, all_nodes, all_work}
use Rattle.pyr_graphtext.specs.Faults.{end_fault, form_fault}
use Rattle.pyr_graphtext.specs.State.{State, reader_of, FitsBody, FitsPart, FollowsPart, FollowsTask, FollowsOpen, Follows}
use Rattle.pyr_graphtext.specs.Taking.{with_closed, ClosesTask, TakesForm}
use Rattle.pyr_graphtext.specs.Tells.{Tells}
use Rattle.pyr_body.proofs.TreeLines.{statements_nodes-lines}
use Rattle.pyr_graphtext.proofs.Sizes.{open_counts-loops_open, work_of-statements, nodes_of-body, work_of-body}
use Rattle.pyr_graphtext.proofs.StatementLemmas.{stands_none}
use Rattle.pyr_graphtext.proofs.FormTaking.{inside, stage_is, takes, on_ok}

-- what the lines of the open task's body come to
pub record StandsIn (said : List Line) (nodes : ℕ) (reader : Result LinesTaken BodyFault) : Type 0 where
  pub taken : LinesTaken
  pub is : reader ≡ Ok taken
  pub stands : Stands (last_reads said) (last_writes said) nodes (last_statements said) taken
  pub counted : all_nodes said ≡ nodes + nodes_of (last_statements said)

pub part_stands : (said : List Line) (nodes : ℕ) (part : OpenPart) → FollowsPart said nodes part → StandsIn said nodes (reader_of part nodes)
part_stands said nodes AfterTask h = record {
  taken = no_lines [] [] nodes;
  is = refl;
  stands = rw (h.0, h.1, h.2) (stands_none [] [] nodes);
  counted = omega (arith, h.3, ap nodes_of h.2);
}
part_stands said nodes (AfterReads names) h = record {
  taken = no_lines names [] nodes;
  is = refl;
  stands = rw (h.0, h.1, h.2) (stands_none names [] nodes);
  counted = omega (arith, h.3, ap nodes_of h.2);
}
part_stands said nodes (InBody (Ok taken)) h = record { taken = taken; is = refl; stands = h.0; counted = h.1 }
part_stands said nodes (InBody (Err fault)) h = absurd h

-- the body that ends so
pub record IsClosedBody (taken : LinesTaken) (body : BodyParts) : Type 0 where
  pub closed : loops_open taken.lines ≡ 0
  pub statements : Statements
  pub lines : lines_of statements ≡ taken.lines
  pub work : statements_work statements ≤ WORK
  pub is : body ≡ body_taken taken statements

abbrev err_body : BodyFault → Result BodyParts BodyFault
err_body f = Err f

abbrev ok_body : BodyParts → Result BodyParts BodyFault
ok_body b = Ok b

pub closed_body : (taken : LinesTaken) (body : BodyParts) → IsEnd taken (Ok body) → IsClosedBody taken body
closed_body taken body end = by_loops (cases_lt 0 (loops_open taken.lines)) where
  by_work : (loops_open taken.lines ≡ 0) → (ss : Statements) → lines_of ss ≡ taken.lines → (WORK < statements_work ss) ⊎ (statements_work ss ≤ WORK) → IsClosedBody taken body
  by_work closed ss lines (inl much) = absurd (let e : ok_body body ≡ Err (body_faults.Limit quantities.Work) = end.much_work ss lines much in cc)
  by_work closed ss lines (inr few) = record {
    closed = closed;
    statements = ss;
    lines = lines;
    work = few;
    is = (let e : ok_body body ≡ Ok (body_taken taken ss) = end.body ss lines few in cc);
  }

  by_loops : (0 < loops_open taken.lines) ⊎ (loops_open taken.lines ≤ 0) → IsClosedBody taken body
  by_loops (inl some) = absurd (let e : ok_body body ≡ Err body_faults.Text = end.open_loop some in cc)
  by_loops (inr none) =
      let closed : loops_open taken.lines ≡ 0 = omega arith in
      let tree = end.tree closed in
      by_work closed tree.0 tree.1 (cases_lt WORK (statements_work tree.0))

-- what the first two tests of an end say
abbrev pub body_end_fault : List WrittenLine → Option LineFault → Option LineFault
body_end_fault lines others = unless (nat_le (length (open_counts lines)) 0) Text (unless (nat_le (work_of lines) WORK) (Limit quantities.Work) others)

-- a body that is refused at its end
pub refused_body : (reads writes : List Name) (nodes : ℕ) (ws : List WrittenLine) (taken : LinesTaken) (fault : BodyFault) (others : Option LineFault)
    → Stands reads writes nodes ws taken → IsEnd taken (Err fault) → body_end_fault ws others ≡ Some (told_by_body fault)
refused_body reads writes nodes ws taken fault others stands end = by_loops (cases_lt 0 (loops_open taken.lines)) where
  counts : length (open_counts ws) ≡ loops_open taken.lines
  counts = open_counts-loops_open reads writes ws ∙ ap loops_open (sym stands.numbered)

  by_work : (loops_open taken.lines ≡ 0) → (ss : Statements) → lines_of ss ≡ taken.lines → (WORK < statements_work ss) ⊎ (statements_work ss ≤ WORK) → body_end_fault ws others ≡ Some (told_by_body fault)
  by_work closed ss lines (inl much) =
      let e : fault ≡ body_faults.Limit quantities.Work = (let k : err_body fault ≡ Err (body_faults.Limit quantities.Work) = end.much_work ss lines much in cc) in
      let none : nat_le (length (open_counts ws)) 0 ≡ true = le-leb (length (open_counts ws)) 0 (omega (arith, counts, closed)) in
      let past : nat_le (work_of ws) WORK ≡ false = lt-leb (work_of ws) WORK (omega (arith, work_of-statements reads writes ws ss (lines ∙ stands.numbered))) in
      rw (none, past) (ap (λ (f : BodyFault). Some (told_by_body f)) (sym e))
  by_work closed ss lines (inr few) = absurd (let k : err_body fault ≡ Ok (body_taken taken ss) = end.body ss lines few in cc)

  by_loops : (0 < loops_open taken.lines) ⊎ (loops_open taken.lines ≤ 0) → body_end_fault ws others ≡ Some (told_by_body fault)
  by_loops (inl some) =
      let e : fault ≡ body_faults.Text = (let k : err_body fault ≡ Err body_faults.Text = end.open_loop some in cc) in
      let past : nat_le (length (open_counts ws)) 0 ≡ false = lt-leb (length (open_counts ws)) 0 (omega (arith, counts)) in
      rw past (ap (λ (f : BodyFault). Some (told_by_body f)) (sym e))
  by_loops (inr none) =
      let closed : loops_open taken.lines ≡ 0 = omega arith in
      let tree = end.tree closed in
      by_work closed tree.0 tree.1 (cases_lt WORK (statements_work tree.0))

-- the body of lines without a fault at their end
pub closed_is : (reads writes : List Name) (nodes : ℕ) (ws : List WrittenLine) (taken : LinesTaken) (body : BodyParts)
    → Stands reads writes nodes ws taken → IsEnd taken (Ok body)
    → IsBodyOf (record { reads = reads; writes = writes; lines = ws }) body × ((others : Option LineFault) → body_end_fault ws others ≡ others)
closed_is reads writes nodes ws taken body stands end =
    let closed = closed_body taken body end in
    let writes_count : length taken.slots - taken.reads ≡ length writes = omega (arith, ap length stands.slots, length-append reads writes, stands.reads_count) in
    let is_lines : lines_of body.statements ≡ numbered_lines reads writes ws = ap (λ (b : BodyParts). lines_of b.statements) closed.is ∙ closed.lines ∙ stands.numbered in
    let counts : length (open_counts ws) ≡ 0 = open_counts-loops_open reads writes ws ∙ ap loops_open (sym stands.numbered) ∙ closed.closed in
    let none : nat_le (length (open_counts ws)) 0 ≡ true = le-leb (length (open_counts ws)) 0 (omega (arith, counts)) in
    let few : nat_le (work_of ws) WORK ≡ true = le-leb (work_of ws) WORK (omega (arith, closed.work, work_of-statements reads writes ws closed.statements (closed.lines ∙ stands.numbered))) in (
      record {
        reads = ap (λ (b : BodyParts). b.reads) closed.is ∙ stands.reads_count;
        writes = ap (λ (b : BodyParts). b.writes) closed.is ∙ writes_count;
        locals = ap (λ (b : BodyParts). b.locals) closed.is ∙ stands.locals;
        lines = is_lines;
      },
      λ others. rw (none, few) refl,
    )

zip_push : {A B : Type 0} (R : A → B → Type 0) (xs : List A) (ys : List B) (x : A) (y : B) → AllZip R xs ys → R x y → AllZip R (xs ++ x ∷ []) (ys ++ y ∷ [])
zip_push R [] [] x y all r = (r, tt)
zip_push R [] (b ∷ ys) x y all r = absurd all
zip_push R (a ∷ xs) [] x y all r = absurd all
zip_push R (a ∷ xs) (b ∷ ys) x y all r = (all.0, zip_push R xs ys x y all.1 r)

-- a closed task more
pub closed_grows : (old : State) (task : OpenTask) (closed : ClosedTask) (said : List Line) → Follows said old → FollowsTask said old.nodes task
    → EndsWith (reader_of task.part old.nodes) (Ok closed.body) → closed.parts ≡ record { cost = task.cost; reads = task.reads; writes = task.writes }
    → Follows (Plain forms.End ∷ said) (with_closed old closed)
closed_grows old task closed said f follows end parts =
    let stood = part_stands said old.nodes task.part follows.part in
    let ended : IsEnd stood.taken (Ok closed.body) = subst (λ (r : Result LinesTaken BodyFault). EndsWith r (Ok closed.body)) stood.is end in
    let body = closed_is (last_reads said) (last_writes said) old.nodes (last_statements said) stood.taken closed.body stood.stands ended in
    let same_parts : last_task said ≡ closed.parts = (λ i. record { cost = follows.cost i; reads = follows.reads i; writes = follows.writes i }) ∙ sym parts in
    record {
      datum_names = f.datum_names;
      datums = f.datums;
      task_names = f.task_names;
      tasks = (λ i. f.tasks i ++ same_parts i ∷ []);
      bodies = zip_push IsBodyOf (bodies said) old.bodies (last_body said) closed.body f.bodies body.0;
      written = f.written;
      prints = f.prints;
      all_reads = f.all_reads;
      work = omega (arith, f.work, work_of-body (last_body said) closed.body body.0);
      open_task = (refl, omega (arith, stood.counted, nodes_of-body (last_body said) closed.body body.0));
    }

-- what the end of a task says, of an open task
pub end_is : (old : State) (task : OpenTask) (said : List Line) → Follows said old → FollowsTask said old.nodes task
    → form_fault said forms.End ≡ body_end_fault (last_statements said) (unless (nat_le (all_work said + work_of (last_statements said)) ALL_WORK) (Limit quantities.AllWork) None)
unfolding form_fault end_fault
end_is old task said f follows = rw (follows.stage, inside task.part) refl

-- a task that is refused at its end
pub end_refused : (old : State) (task : OpenTask) (fault : BodyFault) (said : List Line) → Follows said old → FollowsTask said old.nodes task
    → EndsWith (reader_of task.part old.nodes) (Err fault) → form_fault said forms.End ≡ Some (told_by_body fault)
end_refused old task fault said f follows end =
    let stood = part_stands said old.nodes task.part follows.part in
    let ended : IsEnd stood.taken (Err fault) = subst (λ (r : Result LinesTaken BodyFault). EndsWith r (Err fault)) stood.is end in
    end_is old task said f follows ∙ refused_body (last_reads said) (last_writes said) old.nodes (last_statements said) stood.taken fault _ stood.stands ended

-- a task that has a body, where all bodies together are tested
pub end_added : (old : State) (task : OpenTask) (closed : ClosedTask) (said : List Line) → Follows said old → FollowsTask said old.nodes task
    → EndsWith (reader_of task.part old.nodes) (Ok closed.body)
    → form_fault said forms.End ≡ unless (nat_le (old.work + statements_work closed.body.statements) ALL_WORK) (Limit quantities.AllWork) None
end_added old task closed said f follows end =
    let stood = part_stands said old.nodes task.part follows.part in
    let ended : IsEnd stood.taken (Ok closed.body) = subst (λ (r : Result LinesTaken BodyFault). EndsWith r (Ok closed.body)) stood.is end in
    let body = closed_is (last_reads said) (last_writes said) old.nodes (last_statements said) stood.taken closed.body stood.stands ended in
    let work : all_work said + work_of (last_statements said) ≡ old.work + statements_work closed.body.statements = omega (arith, f.work, work_of-body (last_body said) closed.body body.0) in
    end_is old task said f follows ∙ body.1 _ ∙ ap (λ (n : ℕ). unless (nat_le n ALL_WORK) (Limit quantities.AllWork) None) work

fits_taken : (nodes : ℕ) (taken : LinesTaken) (body : BodyParts) → FitsBody nodes (Ok taken) → IsEnd taken (Ok body) → nodes + statements_nodes body.statements ≤ ALL_NODES
fits_taken nodes taken body fits end =
    let closed = closed_body taken body end in
    let same : statements_nodes body.statements ≡ lines_nodes taken.lines = ap (λ (b : BodyParts). statements_nodes b.statements) closed.is ∙ sym (statements_nodes-lines closed.statements) ∙ ap lines_nodes closed.lines in
    omega (arith, same, fits.1)

-- the body fits into what the bodies before it leave of the nodes
pub closed_fits : (nodes : ℕ) (part : OpenPart) (body : BodyParts) → FitsPart nodes part → nodes ≤ ALL_NODES → EndsWith (reader_of part nodes) (Ok body)
    → nodes + statements_nodes body.statements ≤ ALL_NODES
closed_fits nodes AfterTask body fits few end = fits_taken nodes (no_lines [] [] nodes) body (refl, omega arith) end
closed_fits nodes (AfterReads names) body fits few end = fits_taken nodes (no_lines names [] nodes) body (refl, omega arith) end
closed_fits nodes (InBody (Ok taken)) body fits few end = fits_taken nodes taken body fits end
closed_fits nodes (InBody (Err fault)) body fits few end = absurd (let e : ok_body body ≡ Err fault = end in cc)

-- no task is open
pub end_none : (old : State) → old.open_task ≡ None → (said : List Line) → Follows said old → form_fault said forms.End ≡ Some Text
unfolding form_fault end_fault
end_none old is said f = rw (stage_is said old f, is) refl

follows_task : (old : State) (task : OpenTask) → old.open_task ≡ Some task → (said : List Line) → Follows said old → FollowsTask said old.nodes task
follows_task old task is said f = subst (FollowsOpen said old.nodes) is f.open_task

-- a task that is refused at its end
pub close_refused : {X : Type 0} (r : Result X LineFault) (old new : State) (task : OpenTask) (e : LineFault) → r ≡ Err e → old.open_task ≡ Some task
    → ClosesTask task old.nodes (Err e) → TakesForm old forms.End r new
close_refused {X} r old new task e same is closes = subst (λ (q : Result X LineFault). TakesForm old forms.End q new) (sym same) (by_fault e closes) where
  told : (x : LineFault) → (fault : BodyFault) × EndsWith (reader_of task.part old.nodes) (Err fault) × (x ≡ told_by_body fault) → (said : List Line) → Follows said old → form_fault said forms.End ≡ Some x
  told x h said f = end_refused old task h.0 said f (follows_task old task is said f) h.1 ∙ ap (λ (y : LineFault). Some y) (sym h.2)

  by_fault : (x : LineFault) → ClosesTask task old.nodes (Err x) → TakesForm {X = X} old forms.End (Err x) new
  by_fault Memory h = tt
  by_fault Text h = told Text h
  by_fault (Limit which) h = told (Limit which) h
  by_fault (Names kind name) h = told (Names kind name) h

-- a task that is closed and added
pub close_added : {X : Type 0} (r : Result X LineFault) (old new : State) (task : OpenTask) (closed : ClosedTask) → old.open_task ≡ Some task
    → ClosesTask task old.nodes (Ok closed)
    → Tells r (unless (nat_le (old.work + statements_work closed.body.statements) ALL_WORK) (Limit quantities.AllWork) None)
    → OnOk r (new ≡ with_closed old closed) → TakesForm old forms.End r new
close_added r old new task closed is closes told grown =
    takes r old new forms.End _ told (λ said f. end_added old task closed said f (follows_task old task is said f) closes.0)
    (on_ok r new (with_closed old closed) forms.End old grown (λ said f fine. closed_grows old task closed said f (follows_task old task is said f) closes.0 closes.1))

-- the same of a reader that is seen so
pub refused_seen : {X : Type 0} (r : Result X LineFault) (view old new : State) (task : OpenTask) (e : LineFault) → view ≡ old → r ≡ Err e → view.open_task ≡ Some task
    → ClosesTask task view.nodes (Err e) → TakesForm old forms.End r new
refused_seen r view old new task e seen same is closes = subst (λ (s : State). TakesForm s forms.End r new) seen (close_refused r view new task e same is closes)
