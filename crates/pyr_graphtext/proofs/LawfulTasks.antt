-- The tasks that lines without fault begin and close.
use Rattle.std.proofs.Common.{◌≡◌, ℕ, ◌+◌, ◌<◌, ◌≤◌, true, false, List, [], ◌∷◌, ◌++◌, length, arith, refl, ap, sym, ◌∙◌, None, inl, inr}
use Rattle.std.specs.Prelude.{nat_eq, All, AllPairs}
use Rattle.std.specs.List.{list_any}
use Rattle.std.proofs.lemmas.Bool.{true≢false}
use Rattle.std.proofs.lemmas.List.{length_push, length-map}
use Rattle.std.proofs.lemmas.List.Elements.{All-nil, All-weaker, All-push}
use Rattle.std.proofs.lemmas.List.Quantifiers.{all_pairs_push}
use Rattle.pyr_num.specs.declared.limits.TheConstants.Limits.{LEAST_COST, COST, READS, WRITES}
use Rattle.pyr_num.specs.declared.name.Name.{Name}
use Rattle.pyr_num.specs.declared.ids.DatumId.{DatumId}
use Rattle.pyr_graph.specs.declared.parts.TaskParts.{TaskParts}
use Rattle.pyr_graph.specs.System.{datum_numbers}
use Rattle.pyr_graph.specs.Faults.{first_repeated}
use Rattle.pyr_graphtext.specs.declared.form.Form.TheVariants as forms
use Rattle.pyr_graphtext.specs.declared.stage.Stage.{Stage}
use Rattle.pyr_graphtext.specs.declared.stage.Stage.TheVariants.{Outside, AfterTask, AfterReads, InBody}
use Rattle.pyr_graphtext.specs.Line.{Line, Blank, Plain, Statement}
use Rattle.pyr_graphtext.specs.Statements.{is_among, place_of}
use Rattle.pyr_graphtext.specs.Earlier.{stage_of, datum_names, datum_ids, tasks, written, last_task}
use Rattle.pyr_graphtext.specs.Faults.{is_outside, may_read, may_write, AllPass}
use Rattle.pyr_graphtext.proofs.NameLemmas.{among_cases, among_front, among_back, place_kept, same_place, ids_below, ids_once, name_of_id}
use Rattle.pyr_graphtext.proofs.Passing.{ReadsPass, WritesPass, AreNoneOf, data_line, task_line, reads_line, writes_line, end_line, statement_inside}

-- where lines may stand
pub reads_inside : (stage : Stage) → may_read stage ≡ true → is_outside stage ≡ false
reads_inside Outside may = absurd (true≢false (sym may))
reads_inside AfterTask may = refl
reads_inside AfterReads may = refl
reads_inside InBody may = refl

pub writes_inside : (stage : Stage) → may_write stage ≡ true → is_outside stage ≡ false
writes_inside Outside may = absurd (true≢false (sym may))
writes_inside AfterTask may = refl
writes_inside AfterReads may = refl
writes_inside InBody may = refl

reads_before_writes : (stage : Stage) → may_read stage ≡ true → may_write stage ≡ true
reads_before_writes Outside may = may
reads_before_writes AfterTask may = refl
reads_before_writes AfterReads may = refl
reads_before_writes InBody may = may

-- the number of a datum that has been named as written
pub record IsWrittenName (names written : List Name) (d : ℕ) : Type 0 where
  pub name : Name
  pub known : is_among names name ≡ true
  pub claimed : is_among written name ≡ true
  pub place : d ≡ place_of names name

-- a task whose numbers are within limits, where these are the names of the data and of those written
pub record IsFineTask (names written : List Name) (t : TaskParts) : Type 0 where
  pub least : LEAST_COST ≤ t.cost
  pub most : t.cost ≤ COST
  pub reads : All (λ d. d.0 < length names) t.reads
  pub writes : All (λ d. d.0 < length names) t.writes
  pub few_reads : length t.reads ≤ READS
  pub few_writes : length t.writes ≤ WRITES
  pub reads_once : first_repeated (datum_numbers t.reads) ≡ None
  pub writes_once : first_repeated (datum_numbers t.writes) ≡ None
  pub named : (d : ℕ) → list_any (nat_eq d) (datum_numbers t.writes) ≡ true → IsWrittenName names written d

-- they write no datum in common
abbrev pub AreApart : TaskParts → TaskParts → Type 0
AreApart t u =
    (d : ℕ) → list_any (nat_eq d) (datum_numbers t.writes) ≡ true → list_any (nat_eq d) (datum_numbers u.writes) ≡ true → ⊥

-- the closed tasks, and the last one where it is open
pub record HoldTasks (stage : Stage) (names : List Name) (tasks : List TaskParts) (written : List Name) (last : TaskParts) : Type 0 where
  pub closed : All (IsFineTask names written) tasks
  pub apart : AllPairs AreApart tasks
  pub last_fine : is_outside stage ≡ false → IsFineTask names written last
  pub last_apart : is_outside stage ≡ false → All (λ t. AreApart t last) tasks
  pub no_reads : may_read stage ≡ true → last.reads ≡ []
  pub no_writes : may_write stage ≡ true → last.writes ≡ []

-- a datum more
fine-more_names : (names written : List Name) (name : Name) (t : TaskParts) → IsFineTask names written t → IsFineTask (names ++ name ∷ []) written t
fine-more_names names written name t fine =
    let more : length (names ++ name ∷ []) ≡ length names + 1 = length_push names name in
    record {
      least = fine.least;
      most = fine.most;
      reads = All-weaker (λ (d : DatumId). d.0 < length names) (λ d. d.0 < length (names ++ name ∷ [])) (λ d below. omega (arith, more, below)) t.reads fine.reads;
      writes = All-weaker (λ (d : DatumId). d.0 < length names) (λ d. d.0 < length (names ++ name ∷ [])) (λ d below. omega (arith, more, below)) t.writes fine.writes;
      few_reads = fine.few_reads;
      few_writes = fine.few_writes;
      reads_once = fine.reads_once;
      writes_once = fine.writes_once;
      named = λ d held.
          let is = fine.named d held in
          record {
            name = is.name;
            known = among_front names (name ∷ []) is.name is.known;
            claimed = is.claimed;
            place = is.place ∙ sym (place_kept names (name ∷ []) is.name is.known);
          };
    }

-- more names of data that are written
fine-more_written : (names written others : List Name) (t : TaskParts) → IsFineTask names written t → IsFineTask names (written ++ others) t
fine-more_written names written others t fine = record {
  least = fine.least;
  most = fine.most;
  reads = fine.reads;
  writes = fine.writes;
  few_reads = fine.few_reads;
  few_writes = fine.few_writes;
  reads_once = fine.reads_once;
  writes_once = fine.writes_once;
  named = λ d held.
      let is = fine.named d held in
      record {
        name = is.name;
        known = is.known;
        claimed = among_front written others is.name is.claimed;
        place = is.place;
      };
}

-- a name that is among the names that are none of these is none of these
not_among : (others names : List Name) (x : Name) → AreNoneOf others names → is_among names x ≡ true → is_among others x ≡ true → ⊥
not_among others [] x none is also = true≢false (sym is)
not_among others (y ∷ names) x none is also = elim (among_cases y names x is) [
  | inl same ↦ true≢false (sym also ∙ ap (is_among others) same ∙ none.0)
  | inr there ↦ not_among others names x none.1 there also
]

module _ (stage : Stage) (names : List Name) (tasks : List TaskParts) (written : List Name) (last : TaskParts) (hold : HoldTasks stage names tasks written last) where
  -- a line `data`
  hold-data : (name : Name) (other : TaskParts) → is_outside stage ≡ true → HoldTasks stage (names ++ name ∷ []) tasks written other
  hold-data name other outside = record {
    closed = All-weaker (IsFineTask names written) (IsFineTask (names ++ name ∷ []) written) (fine-more_names names written name) tasks hold.closed;
    apart = hold.apart;
    last_fine = λ inside. absurd (true≢false (sym outside ∙ inside));
    last_apart = λ inside. absurd (true≢false (sym outside ∙ inside));
    no_reads = λ may. absurd (true≢false (sym outside ∙ reads_inside stage may));
    no_writes = λ may. absurd (true≢false (sym outside ∙ writes_inside stage may));
  }

  -- a line `task`
  hold-task : (cost : ℕ) → LEAST_COST ≤ cost → cost ≤ COST → HoldTasks AfterTask names tasks written (record { cost = cost; reads = []; writes = [] })
  hold-task cost least most = record {
    closed = hold.closed;
    apart = hold.apart;
    last_fine = λ _. record {
      least = least;
      most = most;
      reads = All-nil (λ (d : DatumId). d.0 < length names);
      writes = All-nil (λ (d : DatumId). d.0 < length names);
      few_reads = omega arith;
      few_writes = omega arith;
      reads_once = refl;
      writes_once = refl;
      named = λ d held. absurd (true≢false (sym held));
    };
    last_apart = λ _ k t inside d one two. true≢false (sym two);
    no_reads = λ _. refl;
    no_writes = λ _. refl;
  }

  -- a line `reads`
  hold-reads : (all_reads : ℕ) (rs : List Name) → ReadsPass stage names all_reads rs → HoldTasks AfterReads names tasks written (record last { reads = datum_ids names rs })
  hold-reads all_reads rs pass =
      let inside = reads_inside stage pass.may in
      let fine = hold.last_fine inside in
      record {
        closed = hold.closed;
        apart = hold.apart;
        last_fine = λ _. record {
          least = fine.least;
          most = fine.most;
          reads = ids_below names rs pass.known;
          writes = fine.writes;
          few_reads = rw length-map pass.few;
          few_writes = fine.few_writes;
          reads_once = ids_once names rs pass.known pass.new;
          writes_once = fine.writes_once;
          named = fine.named;
        };
        last_apart = λ _. hold.last_apart inside;
        no_reads = λ may. absurd (true≢false (sym may));
        no_writes = λ _. hold.no_writes (reads_before_writes stage pass.may);
      }

  -- a line `writes`
  hold-writes : (ws : List Name) → WritesPass stage names written ws → HoldTasks InBody names tasks (written ++ ws) (record last { writes = datum_ids names ws })
  hold-writes ws pass =
      let inside = writes_inside stage pass.may in
      let fine = hold.last_fine inside in
      record {
        closed = All-weaker (IsFineTask names written) (IsFineTask names (written ++ ws)) (fine-more_written names written ws) tasks hold.closed;
        apart = hold.apart;
        last_fine = λ _. record {
          least = fine.least;
          most = fine.most;
          reads = fine.reads;
          writes = ids_below names ws pass.known;
          few_reads = fine.few_reads;
          few_writes = rw length-map pass.few;
          reads_once = fine.reads_once;
          writes_once = ids_once names ws pass.known pass.new;
          named = λ d held.
              let (name, known, in_ws, place) = name_of_id names ws d pass.known held in
              record { name = name; known = known; claimed = among_back written ws name in_ws; place = place };
        };
        last_apart = λ _.
            All-weaker (IsFineTask names written) (λ t. AreApart t (record last { writes = datum_ids names ws }))
            (λ t closed d one two.
            let is = closed.named d one in
            let (name, known, in_ws, place) = name_of_id names ws d pass.known two in
            let same : name ≡ is.name = same_place names name is.name known is.known (sym place ∙ is.place) in
            not_among written ws name pass.free in_ws (ap (is_among written) same ∙ is.claimed))
            tasks hold.closed;
        no_reads = λ may. absurd (true≢false (sym may));
        no_writes = λ may. absurd (true≢false (sym may));
      }

  -- a line `end`
  hold-end : (other : TaskParts) → is_outside stage ≡ false → HoldTasks Outside names (tasks ++ last ∷ []) written other
  hold-end other inside = record {
    closed = All-push (IsFineTask names written) tasks last hold.closed (hold.last_fine inside);
    apart = all_pairs_push AreApart tasks last hold.apart (hold.last_apart inside);
    last_fine = λ within. absurd (true≢false within);
    last_apart = λ within. absurd (true≢false within);
    no_reads = λ may. absurd (true≢false (sym may));
    no_writes = λ may. absurd (true≢false (sym may));
  }

  -- a line of a body
  hold-statement : is_outside stage ≡ false → HoldTasks InBody names tasks written last
  hold-statement inside = record {
    closed = hold.closed;
    apart = hold.apart;
    last_fine = λ _. hold.last_fine inside;
    last_apart = λ _. hold.last_apart inside;
    no_reads = λ may. absurd (true≢false (sym may));
    no_writes = λ may. absurd (true≢false (sym may));
  }

-- what the tasks of lines without fault keep
pub tasks_held : (said : List Line) → AllPass said → HoldTasks (stage_of said) (datum_names said) (tasks said) (written said) (last_task said)
tasks_held [] pass = record {
  closed = All-nil (IsFineTask [] []);
  apart = λ i j d less inside. absurd (let no_place : j < 0 = inside in omega (arith, no_place));
  last_fine = λ inside. absurd (true≢false inside);
  last_apart = λ inside. absurd (true≢false inside);
  no_reads = λ _. refl;
  no_writes = λ _. refl;
}
tasks_held (Blank ∷ older) pass = tasks_held older pass.0
tasks_held (Plain (forms.Data name words comm) ∷ older) pass =
    hold-data (stage_of older) (datum_names older) (tasks older) (written older) (last_task older) (tasks_held older pass.0)
    name _ (data_line older name words comm pass.1).outside
tasks_held (Plain (forms.Task name cost) ∷ older) pass =
    let line = task_line older name cost pass.1 in
    hold-task (stage_of older) (datum_names older) (tasks older) (written older) (last_task older) (tasks_held older pass.0)
    cost line.least line.most
tasks_held (Plain (forms.Reads names) ∷ older) pass =
    hold-reads (stage_of older) (datum_names older) (tasks older) (written older) (last_task older) (tasks_held older pass.0)
    _ names (reads_line older names pass.1)
tasks_held (Plain (forms.Writes names) ∷ older) pass =
    hold-writes (stage_of older) (datum_names older) (tasks older) (written older) (last_task older) (tasks_held older pass.0)
    names (writes_line older names pass.1)
tasks_held (Plain forms.End ∷ older) pass =
    hold-end (stage_of older) (datum_names older) (tasks older) (written older) (last_task older) (tasks_held older pass.0)
    _ (end_line older pass.1).inside
tasks_held (Plain (forms.Print name) ∷ older) pass = tasks_held older pass.0
tasks_held (Statement line ∷ older) pass =
    hold-statement (stage_of older) (datum_names older) (tasks older) (written older) (last_task older) (tasks_held older pass.0)
    (statement_inside older line pass.1)
