-- The lines of a text, read to its end.
use Rattle.std.proofs.Common.{◌≡◌, ℕ, ◌+◌, ◌≤◌, ◌<◌, Bool, true, false, not, List, [], ◌∷◌, length, Option, Some, None, Result, Ok, Err, refl, sym, ap, subst, ◌∙◌, inl, inr, arith}
use Rattle.std.specs.Prelude.{◌⊎◌, All, IfOk, IfErr}
use Rattle.std.specs.List.{AllZip}
use Rattle.pyr_num.specs.declared.name.Name.{Name}
use Rattle.pyr_lex.specs.declared.token.Token.{Token}
use Rattle.pyr_lex.specs.Reading.{tokens_of}
use Rattle.pyr_body.specs.Parts.{BodyParts}
use Rattle.pyr_graph.specs.declared.fault.GraphFault.{GraphFault}
use Rattle.pyr_graph.specs.declared.fault.GraphFault.TheVariants as graph_faults
use Rattle.pyr_graph.specs.System.{System, system_of, HoldsItsData}
use Rattle.pyr_graph.specs.Faults.{IsFault, IsSound}
use Rattle.pyr_graphtext.specs.declared.line_fault.LineFault.{LineFault}
use Rattle.pyr_graphtext.specs.declared.line_fault.LineFault.TheVariants.{Text, Limit, Names, Memory}
use Rattle.pyr_graphtext.specs.declared.program_fault.ProgramFault.{ProgramFault}
use Rattle.pyr_graphtext.specs.declared.program_fault.ProgramFault.TheVariants as faults
use Rattle.pyr_graphtext.specs.declared.stage.Stage.{Stage}
use Rattle.pyr_graphtext.specs.declared.stage.Stage.TheVariants as stages
use Rattle.pyr_graphtext.specs.Lines.{lines}
use Rattle.pyr_graphtext.specs.Line.{Line}
use Rattle.pyr_graphtext.specs.Statements.{IsBodyOf}
use Rattle.pyr_graphtext.specs.Earlier.{stage_of, datum_names, datum_ids, task_names, bodies}
use Rattle.pyr_graphtext.specs.Faults.{is_outside, fault_behind, AllPass}
use Rattle.pyr_graphtext.specs.Outcome.{IsShallow, told, IsTokensOutcome, IsOutcome}
use Rattle.pyr_graphtext.specs.FirstFault.{Say, onto, IsFirstFault}
use Rattle.pyr_graphtext.specs.Program.{ProgramParts, IsProgram, program_of}
use Rattle.pyr_graphtext.specs.Said.{system_said}
use Rattle.pyr_graphtext.specs.Answer.{StandsFor, IsFaultOf}
use Rattle.pyr_graphtext.specs.State.{State, stage_in, Follows}
use Rattle.pyr_graphtext.specs.Taking.{TakesLine}
use Rattle.pyr_graphtext.specs.Seen.{no_lines}
use Rattle.pyr_graphtext.specs.Placed.{placed}
use Rattle.pyr_graphtext.specs.Finishing.{HasSaid, system_in, name_of, names_of, Makes, Finishes, CanBeTold, IsTold, ReadsLines}
use Rattle.pyr_graphtext.proofs.LineForms.{line_decided, IsDecided}
use Rattle.pyr_graphtext.proofs.OneOutcome.{IsDeep, deep_or_shallow}
use Rattle.pyr_graphtext.proofs.FormTaking.{stage_is}
use Rattle.pyr_graphtext.proofs.CycleLemmas.{cycle_below}
use Rattle.pyr_graphtext.proofs.Lawful.{datums_named, tasks_named, holds_its_data, no_limit_fault, no_duplicate_fault, no_two_writers_fault, is_program_of}

abbrev ok_line : Line → Result Line LineFault
ok_line l = Ok l

-- a line without fault passes its tests
line_passes : (older : List Line) (text : List ℕ) (l : Line) → IsOutcome older text (Ok l) → fault_behind older l ≡ None
line_passes older text l o = by_tokens (tokens_of text) refl where
  by_told : (m : Line) (fault : Option LineFault) → fault_behind older m ≡ fault → ok_line l ≡ told fault m → fault_behind older l ≡ None
  by_told m None is e = let same : l ≡ m = cc in ap (fault_behind older) same ∙ is
  by_told m (Some fault) is e = absurd (let z : ok_line l ≡ Err fault = e in cc)

  by_line : (ts : List Token) → IsTokensOutcome older ts (Ok l) → IsShallow (is_outside (stage_of older)) ts → IsDecided ts → fault_behind older l ≡ None
  by_line ts p shallow (inl found) = by_told found.0 (fault_behind older found.0) refl (p.line shallow found.0 found.1)
  by_line ts p shallow (inr other) = absurd (let z : ok_line l ≡ Err Text = p.no_line shallow other in cc)

  by_depth : (ts : List Token) → IsTokensOutcome older ts (Ok l) → IsDeep (is_outside (stage_of older)) ts ⊎ IsShallow (is_outside (stage_of older)) ts → fault_behind older l ≡ None
  by_depth ts p (inl much) = absurd (let z : ok_line l ≡ Err (Limit Rattle.pyr_num.specs.declared.limits.Quantity.TheVariants.Depth) = p.deep much.0 much.1 in cc)
  by_depth ts p (inr shallow) = by_line ts p shallow (line_decided (is_outside (stage_of older)) ts shallow)

  by_tokens : (r : Option (List Token)) → tokens_of text ≡ r → fault_behind older l ≡ None
  by_tokens None e = absurd (let z : ok_line l ≡ Err Text = o.no_tokens e in cc)
  by_tokens (Some ts) e = by_depth ts (o.tokens ts e) (deep_or_shallow (is_outside (stage_of older)) ts)

-- so do all lines without fault
pub say_pass : (older : List (List ℕ)) (said : List Line) → Say older said → AllPass said
say_pass [] [] s = tt
say_pass [] (f ∷ said) s = absurd s
say_pass (l ∷ older) [] s = absurd s
say_pass (l ∷ older) (f ∷ said) s = (say_pass older said s.0, line_passes said l f s.1)

-- the lines before this one were read, and the state is what they say
pub record HasRead (text : List ℕ) (s : State) (number : ℕ) (rest : List ℕ) : Type 0 where
  pub older : List (List ℕ)
  pub said : List Line
  pub parts : lines text ≡ onto older (lines rest)
  pub counted : number ≡ length older + 1
  pub fine : Say older said
  pub follows : Follows said s
  pub within : number + length rest ≤ length text + 1

no_lines_follow : Follows [] no_lines
no_lines_follow = record {
  datum_names = refl;
  datums = refl;
  task_names = refl;
  tasks = refl;
  bodies = tt;
  written = refl;
  prints = refl;
  all_reads = refl;
  work = refl;
  open_task = (refl, refl);
}

pub HasRead-start : (text : List ℕ) (s : State) → s ≡ no_lines → HasRead text s 1 text
HasRead-start text s is = record {
  older = [];
  said = [];
  parts = refl;
  counted = refl;
  fine = tt;
  follows = subst (Follows []) (sym is) no_lines_follow;
  within = omega arith;
}

pub HasRead-step : (text : List ℕ) (old new : State) (number : ℕ) (rest line behind : List ℕ) → HasRead text old number rest
    → lines rest ≡ line ∷ lines behind → length behind < length rest
    → ((said : List Line) → Follows said old → (l : Line) × IsOutcome said line (Ok l) × Follows (l ∷ said) new)
    → HasRead text new (number + 1) behind
HasRead-step text old new number rest line behind h cut shorter takes =
    let out = takes h.said h.follows in
    record {
      older = line ∷ h.older;
      said = out.0 ∷ h.said;
      parts = h.parts ∙ ap (onto h.older) cut;
      counted = omega (arith, h.counted);
      fine = (h.fine, out.1);
      follows = out.2;
      within = omega (arith, h.within, shorter);
    }

-- the first fault is told with its line
first_fault : (text : List ℕ) (number : ℕ) (e : LineFault) → IsFirstFault text number e → IsFaultOf text (placed number e)
first_fault text number Text f = f
first_fault text number (Limit which) f = f
first_fault text number (Names kind name) f = f
first_fault text number Memory f = tt

pub HasRead-faulty : (text : List ℕ) (old new : State) (number : ℕ) (rest line behind : List ℕ) (e : LineFault) → HasRead text old number rest
    → lines rest ≡ line ∷ lines behind → TakesLine {X = Unit {0}} old line (Err e) new → IsFaultOf text (placed number e)
HasRead-faulty text old new number rest line behind e h cut takes = by_fault e takes where
  faulty : (x : LineFault) → IsOutcome h.said line (Err x) → IsFaultOf text (placed number x)
  faulty x o = first_fault text number x (inl (record {
    older = h.older;
    said = h.said;
    line = line;
    later = lines behind;
    parts = h.parts ∙ ap (onto h.older) cut;
    number = h.counted;
    fine = h.fine;
    faulty = o;
  }))

  by_fault : (x : LineFault) → TakesLine {X = Unit {0}} old line (Err x) new → IsFaultOf text (placed number x)
  by_fault Memory o = tt
  by_fault Text o = faulty Text (o h.said h.follows)
  by_fault (Limit which) o = faulty (Limit which) (o h.said h.follows)
  by_fault (Names kind name) o = faulty (Names kind name) (o h.said h.follows)

none_left : (rest : List ℕ) → length rest ≡ 0 → lines rest ≡ []
unfolding lines
none_left [] e = refl
none_left (b ∷ bs) e = absurd (omega (arith, e))

-- a task is open at the end
pub HasRead-open : (text : List ℕ) (s : State) (number : ℕ) (rest : List ℕ) → HasRead text s number rest → length rest ≡ 0 → not (is_outside (stage_in s.open_task)) ≡ true → IsFaultOf text (faults.BadText number)
HasRead-open text s number rest h done is_open = inr (record {
  older = h.older;
  said = h.said;
  parts = h.parts ∙ ap (onto h.older) (none_left rest done);
  number = h.counted;
  fine = h.fine;
  still_open = ap (λ (x : Stage). not (is_outside x)) (stage_is h.said s h.follows) ∙ is_open;
  text_fault = refl;
})

closed_now : (b : Bool) → not b ≡ false → b ≡ true
closed_now true e = refl
closed_now false e = absurd cc

-- all lines were read
pub HasRead-end : (text : List ℕ) (s : State) (number : ℕ) (rest : List ℕ) → HasRead text s number rest → length rest ≡ 0 → not (is_outside (stage_in s.open_task)) ≡ false → ReadsLines text (Ok s)
HasRead-end text s number rest h done shut = (
  h.said,
  record {
    older = h.older;
    parts = h.parts ∙ ap (onto h.older) (none_left rest done);
    fine = h.fine;
    closed = ap is_outside (stage_is h.said s h.follows) ∙ closed_now (is_outside (stage_in s.open_task)) shut;
  },
  h.follows,
  say_pass h.older h.said h.fine,
)

outside_is : (s : Stage) → is_outside s ≡ true → s ≡ stages.Outside
outside_is stages.Outside e = refl
outside_is stages.AfterTask e = absurd cc
outside_is stages.AfterReads e = absurd cc
outside_is stages.InBody e = absurd cc

-- what was read is what the lines say
pub has_said : (text : List ℕ) (s : State) → ReadsLines text (Ok s) → HasSaid s
has_said text s (said, fine, follows, pass) = record { said = said; follows = follows; pass = pass; closed = outside_is (stage_of said) fine.closed }

same_system : (said : List Line) (s : State) → Follows said s → system_said said ≡ system_in s
same_system said s f = λ i. system_of (f.tasks i) (f.datums i) (datum_ids (f.datum_names i) (f.prints i))

-- what the parts of a state with such lines have to be
pub holds_data : (s : State) → HasSaid s → HoldsItsData (system_in s)
holds_data s h = subst HoldsItsData (same_system h.said s h.follows) (holds_its_data h.said h.pass h.closed)

pub can_be_told : (s : State) → HasSaid s → (fault : GraphFault) → IsFault (system_in s) fault → CanBeTold s.datum_names s.task_names fault
can_be_told s h graph_faults.NoTask f = tt
can_be_told s h (graph_faults.Limit which) f = no_limit_fault h.said h.pass h.closed which (subst (λ (g : System). IsFault g (graph_faults.Limit which)) (sym (same_system h.said s h.follows)) f)
can_be_told s h (graph_faults.Duplicate datum) f = no_duplicate_fault h.said h.pass h.closed datum (subst (λ (g : System). IsFault g (graph_faults.Duplicate datum)) (sym (same_system h.said s h.follows)) f)
can_be_told s h (graph_faults.TwoWriters datum) f = no_two_writers_fault h.said h.pass h.closed datum (subst (λ (g : System). IsFault g (graph_faults.TwoWriters datum)) (sym (same_system h.said s h.follows)) f)
can_be_told s h (graph_faults.NoWriter datum) f =
    let below : datum.0 < length s.datums = f.1.has.0 in
    let named : length s.datum_names ≡ length s.datums = ap length (sym h.follows.datum_names) ∙ datums_named h.said h.pass ∙ ap length h.follows.datums in
    omega (arith, below, named)
can_be_told s h (graph_faults.Cycle list) f =
    let named : length s.tasks ≡ length s.task_names = ap length (sym h.follows.tasks) ∙ sym (tasks_named h.said h.pass h.closed) ∙ ap length h.follows.task_names in
    subst (λ (n : ℕ). All (λ t. t.0 < n) list) named (cycle_below (system_in s) list f)
can_be_told s h graph_faults.Memory f = tt

pub is_program : (s : State) → HasSaid s → IsProgram (program_of (system_in s) s.datum_names s.task_names s.bodies)
is_program s h =
    let p : IsProgram (program_of (system_in s) (datum_names h.said) (task_names h.said) s.bodies) = is_program_of h.said h.pass h.closed (system_in s) s.bodies (sym (same_system h.said s h.follows)) h.follows.bodies in
    subst (λ (ns : List Name). IsProgram (program_of (system_in s) ns s.task_names s.bodies)) h.follows.datum_names
    (subst (λ (ns : List Name). IsProgram (program_of (system_in s) (datum_names h.said) ns s.bodies)) h.follows.task_names p)

-- the answer at the end of a text whose lines were read
pub answer_program : (text : List ℕ) (s : State) (p : ProgramParts) → ReadsLines text (Ok s) → Finishes s (Ok p) → StandsFor text p
answer_program text s p (said, fine, follows, pass) (sound, is) = record {
  said = said;
  fine = fine;
  sound = subst IsSound (sym (same_system said s follows)) sound;
  program = record {
    graph = ap (λ (q : ProgramParts). q.graph) is ∙ sym (same_system said s follows);
    datum_names = ap (λ (q : ProgramParts). q.datum_names) is ∙ sym follows.datum_names;
    task_names = ap (λ (q : ProgramParts). q.task_names) is ∙ sym follows.task_names;
    bodies = subst (AllZip IsBodyOf (bodies said)) (sym (ap (λ (q : ProgramParts). q.bodies) is)) follows.bodies;
  };
}

abbrev err_program : ProgramFault → Result ProgramParts ProgramFault
err_program f = Err f

pub answer_fault : (text : List ℕ) (s : State) (fault : ProgramFault) → ReadsLines text (Ok s) → Finishes s (Err fault) → IsFaultOf text fault
answer_fault text s (faults.BadText line) r f = absurd f
answer_fault text s (faults.Limit line which) r f = absurd f
answer_fault text s (faults.Names line kind name) r f = absurd f
answer_fault text s faults.NoTask (said, fine, follows, pass) f = record {
  said = said;
  fine = fine;
  none = subst (λ (g : System). IsFault g graph_faults.NoTask) (sym (same_system said s follows)) f;
}
answer_fault text s (faults.NoWriter name) (said, fine, follows, pass) (d, f, named) = record {
  said = said;
  fine = fine;
  datum = d.0;
  smallest = subst (λ (g : System). IsFault g (graph_faults.NoWriter d)) (sym (same_system said s follows)) f;
  named = named ∙ ap (λ (ns : List Name). name_of ns d.0) (sym follows.datum_names);
}
answer_fault text s (faults.Cycle names) (said, fine, follows, pass) (list, f, named) = record {
  said = said;
  fine = fine;
  tasks = list;
  cycle = subst (λ (g : System). IsFault g (graph_faults.Cycle list)) (sym (same_system said s follows)) f;
  named = named ∙ ap (λ (ns : List Name). names_of ns list) (sym follows.task_names);
}
answer_fault text s faults.Memory r f = tt

-- a fault that is told with names
pub told_makes : (s : System) (names others : List Name) (bs : List BodyParts) (fault : GraphFault) (told : ProgramFault) → IsFault s fault → IsTold names others fault told → Makes s names others bs (Err told)
told_makes s names others bs graph_faults.NoTask told f is = subst (λ (t : ProgramFault). Makes s names others bs (Err t)) (sym is) f
told_makes s names others bs (graph_faults.NoWriter d) told f is = subst (λ (t : ProgramFault). Makes s names others bs (Err t)) (sym is) (d, f, refl)
told_makes s names others bs (graph_faults.Cycle list) told f is = subst (λ (t : ProgramFault). Makes s names others bs (Err t)) (sym is) (list, f, refl)
told_makes s names others bs graph_faults.Memory told f is = subst (λ (t : ProgramFault). Makes s names others bs (Err t)) (sym is) tt
told_makes s names others bs (graph_faults.Limit which) told f is = absurd is
told_makes s names others bs (graph_faults.Duplicate d) told f is = absurd is
told_makes s names others bs (graph_faults.TwoWriters d) told f is = absurd is

-- what reading answers
pub answers_program : (text : List ℕ) (s : State) (r : Result ProgramParts ProgramFault) → ReadsLines text (Ok s) → Finishes s r → IfOk r (StandsFor text)
answers_program text s (Ok p) read f = answer_program text s p read f
answers_program text s (Err fault) read f = tt

pub answers_fault : (text : List ℕ) (s : State) (r : Result ProgramParts ProgramFault) → ReadsLines text (Ok s) → Finishes s r → IfErr r (IsFaultOf text)
answers_fault text s (Ok p) read f = tt
answers_fault text s (Err fault) read f = answer_fault text s fault read f
