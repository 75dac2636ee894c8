-- What the reader of a text does with the tokens of a line.
use Rattle.std.proofs.Common.{◌≡◌, ℕ, ◌+◌, ◌≤◌, ◌<◌, Bool, true, false, cond, List, [], ◌∷◌, length, Option, Some, None, Result, Ok, Err, refl, sym, ap, subst, ◌∙◌, arith}
use Rattle.std.specs.Prelude.{◌≢◌, nat_lt, IsTrue}
use Rattle.std.proofs.lemmas.Bool.{lt-ltb, le-ltb}
use Rattle.pyr_num.specs.declared.limits.Quantity.TheVariants as quantities
use Rattle.pyr_num.specs.declared.limits.TheConstants.Limits.{DEPTH, ALL_NODES}
use Rattle.pyr_lex.specs.declared.token.Token.{Token}
use Rattle.pyr_lex.specs.declared.spanned_token.SpannedToken.{SpannedToken}
use Rattle.pyr_lex.specs.Token.{tokens_in}
use Rattle.pyr_lex.specs.Depth.{depth_of}
use Rattle.pyr_lex.specs.Reading.{tokens_of}
use Rattle.pyr_body.specs.declared.line_fault.LineFault.{LineFault as BodyFault}
use Rattle.pyr_body.specs.declared.line_fault.LineFault.TheVariants as body_faults
use Rattle.pyr_body.specs.Written.{WrittenLine}
use Rattle.pyr_body.specs.Spelling.{line_tokens}
use Rattle.pyr_body.specs.Taking.{LinesTaken}
use Rattle.pyr_body.specs.Reader.{IsOutcome as IsBodyOutcome, GoesOn}
use Rattle.pyr_graphtext.specs.declared.form.Form.{Form}
use Rattle.pyr_graphtext.specs.declared.form.Form.TheVariants as forms
use Rattle.pyr_graphtext.specs.declared.line_fault.LineFault.{LineFault}
use Rattle.pyr_graphtext.specs.declared.line_fault.LineFault.TheVariants.{Text, Limit, Names, Memory}
use Rattle.pyr_graphtext.specs.declared.open_task.OpenTask.{OpenTask}
use Rattle.pyr_graphtext.specs.declared.open_part.OpenPart.TheVariants.{AfterTask, AfterReads, InBody}
use Rattle.pyr_graphtext.specs.Line.{Line, Blank, Plain, Statement, plain_tokens, tokens_of_line}
use Rattle.pyr_graphtext.specs.Statements.{nodes_of, statement_fault}
use Rattle.pyr_graphtext.specs.BodyFaults.{told_by_body}
use Rattle.pyr_graphtext.specs.Earlier.{stage_of, last_reads, last_writes, last_statements, all_nodes}
use Rattle.pyr_graphtext.specs.Faults.{is_outside, data_fault, task_fault, print_fault, form_fault, fault_behind}
use Rattle.pyr_graphtext.specs.Outcome.{begins_statement, is_statement, IsShallow, told, IsTokensOutcome, IsOutcome}
use Rattle.pyr_graphtext.specs.declared.open_part.OpenPart.{OpenPart}
use Rattle.pyr_graphtext.specs.State.{State, reader_of, stage_in, FitsOpen, FollowsPart, FollowsTask, FollowsOpen, Follows}
use Rattle.pyr_graphtext.specs.Taking.{TakesForm, TakesTokens, TakesLine, TakesBodyLine, stray_fault}
use Rattle.pyr_graphtext.specs.FormReading.{Gives, form_behind}
use Rattle.pyr_graphtext.proofs.StatementLemmas.{taken_on, refused_on}
use Rattle.pyr_graphtext.proofs.LineForms.{form_in, form_again, form_sound, line_is_one, begins_body, statement_begins, body_is_statement}
use Rattle.pyr_graphtext.proofs.OneOutcome.{line_outcome}
use Rattle.pyr_graphtext.proofs.FormTaking.{inside, stage_is, passes_plain}
use Rattle.pyr_graphtext.proofs.EndTaking.{StandsIn, part_stands}
use Rattle.pyr_graphtext.proofs.BodyNodes.{BodyCase, empty, deep, line, none, body_case, fits_on}

abbrev ok_line : Line → Result Line LineFault
ok_line l = Ok l

abbrev err_line : LineFault → Result Line LineFault
err_line f = Err f

-- a line with a fault is what its tokens come to
line_refused : (older : List Line) (l : Line) (fault : LineFault) → IsShallow (is_outside (stage_of older)) (tokens_of_line l) → fault_behind older l ≡ Some fault → IsTokensOutcome older (tokens_of_line l) (Err fault)
line_refused older l fault shallow is = record {
  deep = λ s. λ d. absurd (omega (arith, d, shallow s));
  line = λ _. λ m. λ e. let same : l ≡ m = line_is_one l m e in
      subst (λ k. err_line fault ≡ told (fault_behind older k) k) same (sym (ap (λ (o : Option LineFault). told o l) is));
  no_line = λ _. λ other. absurd (other l refl);
}

-- tokens of too deep a line of a body
too_deep : (older : List Line) (ts : List Token) → IsTrue (is_statement (is_outside (stage_of older)) ts) → DEPTH < depth_of ts → IsTokensOutcome older ts (Err (Limit quantities.Depth))
too_deep older ts s much = record {
  deep = λ _. λ _. refl;
  line = λ shallow. λ _. λ _. absurd (omega (arith, shallow s));
  no_line = λ shallow. λ _. absurd (omega (arith, shallow s));
}

-- a form that a line of a body can't have, where a line of a body stands
misplaced : (older : List Line) (f : Form) → IsTrue (is_statement (is_outside (stage_of older)) (plain_tokens f)) → is_outside (stage_of older) ≡ false → form_fault older f ≡ Some Text
unfolding form_fault data_fault task_fault print_fault
misplaced older (forms.Data name length comm) s inner = rw inner refl
misplaced older (forms.Task name cost) s inner = rw inner refl
misplaced older (forms.Reads names) s inner = absurd (let e : false ≡ true = s in cc)
misplaced older (forms.Writes names) s inner = absurd (let e : false ≡ true = s in cc)
misplaced older forms.End s inner = absurd (let e : false ≡ true = s in cc)
misplaced older (forms.Print name) s inner = rw inner refl

-- tokens that are no line of a body, within a task
no_body_line : (older : List Line) (ts : List Token) → IsTrue (is_statement (is_outside (stage_of older)) ts) → is_outside (stage_of older) ≡ false
    → depth_of ts ≤ DEPTH → ((w : WrittenLine) → ts ≢ line_tokens w) → IsTokensOutcome older ts (Err Text)
unfolding fault_behind
no_body_line older ts s inner shallow other = record {
  deep = λ _. λ much. absurd (omega (arith, much, shallow));
  line = λ _. λ l. λ e. by_line l e;
  no_line = λ _. λ _. refl;
} where
  by_line : (l : Line) → ts ≡ tokens_of_line l → err_line Text ≡ told (fault_behind older l) l
  by_line Blank e = absurd (let z : false ≡ true = ap (is_statement (is_outside (stage_of older))) (sym e) ∙ s in cc)
  by_line (Plain f) e =
      let t : is_statement (is_outside (stage_of older)) (plain_tokens f) ≡ true = ap (is_statement (is_outside (stage_of older))) (sym e) ∙ s in
      rw (misplaced older f t inner) refl
  by_line (Statement w) e = absurd (other w e)

abbrev pub with_open : State → OpenTask → State
with_open s t = record s { open_task = Some t }

abbrev ok_taken : LinesTaken → Result LinesTaken BodyFault
ok_taken t = Ok t

abbrev err_taken : BodyFault → Result LinesTaken BodyFault
err_taken f = Err f

no_statement : (outside : Bool) (ts : List Token) → IsTrue (is_statement outside ts) → ts ≢ []
no_statement outside ts s e = let z : false ≡ true = ap (is_statement outside) (sym e) ∙ s in cc

-- a line of a body within a task that is taken
module _ (old : State) (task : OpenTask) (ts : List Token) (is : old.open_task ≡ Some task)
    (s : IsTrue (is_statement (is_outside (stage_in old.open_task)) ts)) (said : List Line) (f : Follows said old) where
  follows : FollowsTask said old.nodes task
  follows = subst (FollowsOpen said old.nodes) is f.open_task

  stood : StandsIn said old.nodes (reader_of task.part old.nodes)
  stood = part_stands said old.nodes task.part follows.part

  inner : is_outside (stage_of said) ≡ false
  inner = ap is_outside follows.stage ∙ inside task.part

  here : IsTrue (is_statement (is_outside (stage_of said)) ts)
  here = ap (λ (o : Bool). is_statement o ts) (ap is_outside (stage_is said old f)) ∙ s

  statement_is : (w : WrittenLine) (fault : Option LineFault) → statement_fault (last_reads said) (last_writes said) (old.nodes + nodes_of (last_statements said)) (last_statements said) w ≡ fault
      → fault_behind said (Statement w) ≡ fault
  unfolding fault_behind
  statement_is w fault e = rw inner (ap (λ (n : ℕ). statement_fault (last_reads said) (last_writes said) n (last_statements said) w) stood.counted ∙ e)

  shallow_line : (w : WrittenLine) → ts ≡ line_tokens w → depth_of ts ≤ DEPTH → IsShallow (is_outside (stage_of said)) (tokens_of_line (Statement w))
  shallow_line w spelled shallow = λ _. subst (λ (us : List Token). depth_of us ≤ DEPTH) spelled shallow

  pub body_line_taken : (taken : LinesTaken) → GoesOn (reader_of task.part old.nodes) ts (Ok taken)
      → (l : Line) × IsTokensOutcome said ts (Ok l) × Follows (l ∷ said) (record old { open_task = Some (record task { part = InBody (Ok taken) }) })
  body_line_taken taken goes = by_case (body_case stood.taken ts (Ok taken) (subst (λ (r : Result LinesTaken BodyFault). GoesOn r ts (Ok taken)) stood.is goes)) where
    by_case : BodyCase stood.taken ts (Ok taken)
        → (l : Line) × IsTokensOutcome said ts (Ok l) × Follows (l ∷ said) (record old { open_task = Some (record task { part = InBody (Ok taken) }) })
    by_case (empty nothing is) = absurd (no_statement (is_outside (stage_of said)) ts here nothing)
    by_case (deep much is) = absurd (let z : ok_taken taken ≡ Err (body_faults.Limit quantities.Depth) = is in cc)
    by_case (none some shallow other is) = absurd (let z : ok_taken taken ≡ Err body_faults.Text = is in cc)
    by_case (line w spelled shallow after) =
        let on = taken_on (last_reads said) (last_writes said) old.nodes (last_statements said) stood.taken taken w stood.stands (sym after) in
        let fine : fault_behind said (Statement w) ≡ None = statement_is w None on.0 in
        let counted : all_nodes (Statement w ∷ said) ≡ old.nodes + nodes_of (w ∷ last_statements said) = omega (arith, stood.counted) in (
          Statement w,
          subst (λ (us : List Token). IsTokensOutcome said us (Ok (Statement w))) (sym spelled) (line_outcome said (Statement w) (shallow_line w spelled shallow) fine),
          record {
            datum_names = f.datum_names;
            datums = f.datums;
            task_names = f.task_names;
            tasks = f.tasks;
            bodies = f.bodies;
            written = f.written;
            prints = f.prints;
            all_reads = f.all_reads;
            work = f.work;
            open_task = record { stage = refl; cost = follows.cost; reads = follows.reads; writes = follows.writes; part = (on.1, counted) };
          },
        )

  told_outcome : (taken : LinesTaken) (fault : BodyFault) → fault ≢ body_faults.Memory → GoesOn (Ok taken) ts (Err fault) → IsBodyOutcome taken ts (Err fault)
  told_outcome taken body_faults.Text some o = o
  told_outcome taken (body_faults.Limit which) some o = o
  told_outcome taken (body_faults.Unknown name) some o = o
  told_outcome taken body_faults.Memory some o = absurd (some refl)

  pub body_line_refused : (fault : BodyFault) → fault ≢ body_faults.Memory → GoesOn (reader_of task.part old.nodes) ts (Err fault)
      → IsTokensOutcome said ts (Err (told_by_body fault))
  body_line_refused fault some goes = by_case (body_case stood.taken ts (Err fault) (told_outcome stood.taken fault some (subst (λ (r : Result LinesTaken BodyFault). GoesOn r ts (Err fault)) stood.is goes))) where
    by_case : BodyCase stood.taken ts (Err fault) → IsTokensOutcome said ts (Err (told_by_body fault))
    by_case (empty nothing is) = absurd (no_statement (is_outside (stage_of said)) ts here nothing)
    by_case (deep much is) =
        let e : fault ≡ body_faults.Limit quantities.Depth = (let z : err_taken fault ≡ Err (body_faults.Limit quantities.Depth) = is in cc) in
        subst (λ (b : BodyFault). IsTokensOutcome said ts (Err (told_by_body b))) (sym e) (too_deep said ts here much)
    by_case (none nonempty shallow other is) =
        let e : fault ≡ body_faults.Text = (let z : err_taken fault ≡ Err body_faults.Text = is in cc) in
        subst (λ (b : BodyFault). IsTokensOutcome said ts (Err (told_by_body b))) (sym e) (no_body_line said ts here inner shallow other)
    by_case (line w spelled shallow after) =
        let on = refused_on (last_reads said) (last_writes said) old.nodes (last_statements said) stood.taken fault w stood.stands (sym after) in
        subst (λ (us : List Token). IsTokensOutcome said us (Err (told_by_body fault))) (sym spelled) (line_refused said (Statement w) (told_by_body fault) (shallow_line w spelled shallow) (statement_is w (Some (told_by_body fault)) on))

-- a line of a body that an open task refuses
pub body_line_fails : {X : Type 0} (r : Result X LineFault) (view old new : State) (task : OpenTask) (ts : List Token) (e : LineFault) → view ≡ old → r ≡ Err e
    → view.open_task ≡ Some task → IsTrue (is_statement (is_outside (stage_in old.open_task)) ts) → TakesBodyLine task view.nodes ts (Err e) → TakesTokens old ts r new
body_line_fails {X} r view old new task ts e seen same is s takes =
    subst (λ (q : Result X LineFault). TakesTokens old ts q new) (sym same) (by_fault e (subst (λ (n : ℕ). TakesBodyLine task n ts (Err e)) (ap (λ (v : State). v.nodes) seen) takes)) where
      open_now : old.open_task ≡ Some task
      open_now = ap (λ (v : State). v.open_task) (sym seen) ∙ is

      refused : (x : LineFault) → (fault : BodyFault) × GoesOn (reader_of task.part old.nodes) ts (Err fault) × (fault ≢ body_faults.Memory) × (x ≡ told_by_body fault)
          → (said : List Line) → Follows said old → IsTokensOutcome said ts (Err x)
      refused x h said f = subst (λ (y : LineFault). IsTokensOutcome said ts (Err y)) (sym h.3) (body_line_refused old task ts open_now s said f h.0 h.2 h.1)

      by_fault : (x : LineFault) → TakesBodyLine task old.nodes ts (Err x) → TakesTokens {X = X} old ts (Err x) new
      by_fault Memory h = tt
      by_fault Text h = refused Text h
      by_fault (Limit which) h = refused (Limit which) h
      by_fault (Names kind name) h = refused (Names kind name) h

-- a line of a body that an open task takes
pub body_line_grows : (view old new : State) (task grown : OpenTask) (ts : List Token) → view ≡ old → view.open_task ≡ Some task
    → IsTrue (is_statement (is_outside (stage_in old.open_task)) ts) → TakesBodyLine task view.nodes ts (Ok grown) → new ≡ with_open view grown
    → (said : List Line) → Follows said old → (l : Line) × IsTokensOutcome said ts (Ok l) × Follows (l ∷ said) new
body_line_grows view old new task grown ts seen is s takes to said f =
    let now = subst (λ (n : ℕ). TakesBodyLine task n ts (Ok grown)) (ap (λ (v : State). v.nodes) seen) takes in
    let out = body_line_taken old task ts (ap (λ (v : State). v.open_task) (sym seen) ∙ is) s said f now.0 now.1 in
    (out.0, out.1, subst (Follows (out.0 ∷ said)) (ap (with_open old) (sym now.2) ∙ ap (λ (v : State). with_open v grown) (sym seen) ∙ sym to) out.2)

-- the body stays within what the bodies before it leave of the nodes
pub statement_fits : (nodes : ℕ) (task grown : OpenTask) (ts : List Token) → FitsOpen nodes (Some task) → nodes ≤ ALL_NODES → TakesBodyLine task nodes ts (Ok grown) → FitsOpen nodes (Some grown)
statement_fits nodes task grown ts fits few takes = subst (λ (t : OpenTask). FitsOpen nodes (Some t)) (sym takes.2) (fits_on nodes task.part ts takes.0 fits few takes.1)

-- no form is a line of a body outside tasks
no_plain : (f : Form) → IsTrue (is_statement true (plain_tokens f)) → ⊥
no_plain (forms.Data name length comm) s = let e : false ≡ true = s in cc
no_plain (forms.Task name cost) s = let e : false ≡ true = s in cc
no_plain (forms.Reads names) s = let e : false ≡ true = s in cc
no_plain (forms.Writes names) s = let e : false ≡ true = s in cc
no_plain forms.End s = let e : false ≡ true = s in cc
no_plain (forms.Print name) s = let e : false ≡ true = s in cc

-- a line of a body outside tasks
pub stray_refused : (old : State) (ts : List Token) → old.open_task ≡ None → IsTrue (is_statement (is_outside (stage_in old.open_task)) ts)
    → (said : List Line) → Follows said old → IsTokensOutcome said ts (Err (stray_fault ts))
unfolding fault_behind
stray_refused old ts is s said f = record {
  deep = λ _. λ much. ap (λ (b : Bool). err_line (cond b (Limit quantities.Depth) Text)) (lt-ltb DEPTH (depth_of ts) much);
  line = λ shallow. λ l. λ e. text shallow ∙ by_line l e;
  no_line = λ shallow. λ _. text shallow;
} where
  outer : is_outside (stage_of said) ≡ true
  outer = ap is_outside (stage_is said old f) ∙ ap (λ (o : Option OpenTask). is_outside (stage_in o)) is

  there : IsTrue (is_statement true ts)
  there = ap (λ (o : Bool). is_statement o ts) (sym (ap (λ (o : Option OpenTask). is_outside (stage_in o)) is)) ∙ s

  text : IsShallow (is_outside (stage_of said)) ts → err_line (stray_fault ts) ≡ Err Text
  text shallow = ap (λ (b : Bool). err_line (cond b (Limit quantities.Depth) Text)) (le-ltb DEPTH (depth_of ts) (shallow (ap (λ (o : Bool). is_statement o ts) outer ∙ there)))

  by_line : (l : Line) → ts ≡ tokens_of_line l → err_line Text ≡ told (fault_behind said l) l
  by_line Blank e = absurd (no_statement true ts there e)
  by_line (Plain g) e = absurd (no_plain g (subst (λ (us : List Token). IsTrue (is_statement true us)) e there))
  by_line (Statement w) e = rw outer refl

pub stray_takes : (X : Type 0) (view old new : State) (ts : List Token) (e : LineFault) → view ≡ old → e ≡ stray_fault ts → view.open_task ≡ None → IsTrue (is_statement (is_outside (stage_in old.open_task)) ts)
    → TakesTokens {X = X} old ts (Err e) new
stray_takes X view old new ts e seen same is s = subst (λ (x : LineFault). TakesTokens {X = X} old ts (Err x) new) (sym same) (by_test (nat_lt DEPTH (depth_of ts)) (stray_refused old ts (ap (λ (v : State). v.open_task) (sym seen) ∙ is) s)) where
  by_test : (b : Bool) → ((said : List Line) → Follows said old → IsTokensOutcome said ts (Err (cond b (Limit quantities.Depth) Text))) → TakesTokens {X = X} old ts (Err (cond b (Limit quantities.Depth) Text)) new
  by_test true h = h
  by_test false h = h

-- a line of a form
pub form_takes : {X : Type 0} (old new : State) (t : Token) (ts : List Token) (form : Form) (r : Result X LineFault)
    → begins_statement (is_outside (stage_in old.open_task)) t ≡ false → form_behind t ts ≡ Some form → TakesForm old form r new → TakesTokens old (t ∷ ts) r new
unfolding fault_behind
form_takes {X} old new t ts form r other read takes = by_result r takes where
  spelled : t ∷ ts ≡ plain_tokens form
  spelled = form_sound (t ∷ ts) form read

  shallow : (said : List Line) → Follows said old → IsShallow (is_outside (stage_of said)) (plain_tokens form)
  shallow said f = λ s. absurd (let z : false ≡ true = sym other ∙ ap (λ (o : Bool). begins_statement o t) (sym (ap is_outside (stage_is said old f))) ∙ ap (is_statement (is_outside (stage_of said))) spelled ∙ s in cc)

  refused : (e : LineFault) (said : List Line) → Follows said old → form_fault said form ≡ Some e → IsTokensOutcome said (t ∷ ts) (Err e)
  refused e said f is = subst (λ (us : List Token). IsTokensOutcome said us (Err e)) (sym spelled) (line_refused said (Plain form) e (shallow said f) is)

  by_result : (q : Result X LineFault) → TakesForm old form q new → TakesTokens old (t ∷ ts) q new
  by_result (Ok x) h = λ said f.
      let out = h said f in
      (Plain form, subst (λ (us : List Token). IsTokensOutcome said us (Ok (Plain form))) (sym spelled) (line_outcome said (Plain form) (shallow said f) (passes_plain said form out.0)), out.1)
  by_result (Err Memory) h = tt
  by_result (Err Text) h = λ said f. refused Text said f (h said f)
  by_result (Err (Limit which)) h = λ said f. refused (Limit which) said f (h said f)
  by_result (Err (Names kind name)) h = λ said f. refused (Names kind name) said f (h said f)

-- tokens that are no line
pub no_form : (old : State) (t : Token) (ts : List Token) → begins_statement (is_outside (stage_in old.open_task)) t ≡ false → form_behind t ts ≡ None
    → (said : List Line) → Follows said old → IsTokensOutcome said (t ∷ ts) (Err Text)
no_form old t ts other read said f = record {
  deep = λ s. λ _. absurd (no s);
  line = λ _. λ l. λ e. by_line l e;
  no_line = λ _. λ _. refl;
} where
  stays : begins_statement (is_outside (stage_of said)) t ≡ false
  stays = ap (λ (o : Bool). begins_statement o t) (ap is_outside (stage_is said old f)) ∙ other

  no : IsTrue (is_statement (is_outside (stage_of said)) (t ∷ ts)) → ⊥
  no s = let z : false ≡ true = sym stays ∙ s in cc

  by_line : (l : Line) → t ∷ ts ≡ tokens_of_line l → err_line Text ≡ told (fault_behind said l) l
  by_line Blank e = absurd cc
  by_line (Plain g) e = absurd (let z : None ≡ Some g = sym read ∙ ap form_in e ∙ form_again g in cc)
  by_line (Statement w) e = absurd (no (body_is_statement (is_outside (stage_of said)) (t ∷ ts) (ap begins_body e ∙ statement_begins w)))

-- tokens that are no line, or memory ran out
pub no_form_takes : {X : Type 0} (r : Result X LineFault) (old new : State) (t : Token) (ts : List Token) (e : LineFault) → r ≡ Err e
    → begins_statement (is_outside (stage_in old.open_task)) t ≡ false → Gives (λ (f : Form). f) (Err e) (form_behind t ts) → TakesTokens old (t ∷ ts) r new
no_form_takes {X} r old new t ts e same other gives = subst (λ (q : Result X LineFault). TakesTokens old (t ∷ ts) q new) (sym same) (by_fault e gives) where
  by_fault : (x : LineFault) → Gives (λ (f : Form). f) (Err x) (form_behind t ts) → TakesTokens {X = X} old (t ∷ ts) (Err x) new
  by_fault Memory h = tt
  by_fault Text h = no_form old t ts other h
  by_fault (Limit which) h = absurd h
  by_fault (Names kind name) h = absurd h

-- a line without a token
blank_task : (said : List Line) (nodes : ℕ) (o : Option OpenTask) → FollowsOpen said nodes o → FollowsOpen (Blank ∷ said) nodes o
blank_task said nodes None h = h
blank_task said nodes (Some task) h = record { stage = h.stage; cost = h.cost; reads = h.reads; writes = h.writes; part = by_part task.part h.part } where
  by_part : (p : OpenPart) → FollowsPart said nodes p → FollowsPart (Blank ∷ said) nodes p
  by_part AfterTask k = k
  by_part (AfterReads names) k = k
  by_part (InBody (Ok taken)) k = k
  by_part (InBody (Err fault)) k = k

pub blank_taken : (old : State) (said : List Line) → Follows said old → (l : Line) × IsTokensOutcome said [] (Ok l) × Follows (l ∷ said) old
unfolding fault_behind
blank_taken old said f = (
  Blank,
  line_outcome said Blank (λ s. absurd (let z : false ≡ true = s in cc)) refl,
  record {
    datum_names = f.datum_names;
    datums = f.datums;
    task_names = f.task_names;
    tasks = f.tasks;
    bodies = f.bodies;
    written = f.written;
    prints = f.prints;
    all_reads = f.all_reads;
    work = f.work;
    open_task = blank_task said old.nodes old.open_task f.open_task;
  },
)

-- a line of these tokens
pub line_takes : {X : Type 0} (old new : State) (text : List ℕ) (ts : List Token) (r : Result X LineFault) → tokens_of text ≡ Some ts → TakesTokens old ts r new → TakesLine old text r new
line_takes {X} old new text ts r is takes = by_result r takes where
  outcome : (said : List Line) (o : Result Line LineFault) → IsTokensOutcome said ts o → IsOutcome said text o
  outcome said o h = record {
    no_tokens = λ e. absurd (let z : None ≡ Some ts = sym e ∙ is in cc);
    tokens = λ us. λ e. subst (λ (vs : List Token). IsTokensOutcome said vs o) (let z : Some ts ≡ Some us = sym is ∙ e in cc) h;
  }

  by_result : (q : Result X LineFault) → TakesTokens old ts q new → TakesLine old text q new
  by_result (Ok x) h = λ said f. let out = h said f in (out.0, outcome said (Ok out.0) out.1, out.2)
  by_result (Err Memory) h = tt
  by_result (Err Text) h = λ said f. outcome said (Err Text) (h said f)
  by_result (Err (Limit which)) h = λ said f. outcome said (Err (Limit which)) (h said f)
  by_result (Err (Names kind name)) h = λ said f. outcome said (Err (Names kind name)) (h said f)

-- a line without tokens, where bytes stand that are none
pub no_tokens_refused : (text : List ℕ) (said : List Line) → tokens_of text ≡ None → IsOutcome said text (Err Text)
no_tokens_refused text said nothing = record {
  no_tokens = λ _. refl;
  tokens = λ us. λ e. absurd (let z : None ≡ Some us = sym nothing ∙ e in cc);
}

-- a line of no tokens
pub nothing_in : (ts : List SpannedToken) → length ts ≡ 0 → tokens_in ts ≡ []
nothing_in [] e = refl
nothing_in (t ∷ ts) e = absurd (omega (arith, e))
