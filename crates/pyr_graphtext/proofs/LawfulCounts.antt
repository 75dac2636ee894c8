-- The data, the prints and the numbers that lines without fault come to.
use Rattle.std.proofs.Common.{◌≡◌, ℕ, ◌+◌, ◌<◌, ◌≤◌, true, false, List, [], ◌∷◌, ◌++◌, length, get_or, zero, suc, arith, refl, ap, sym, ◌∙◌}
use Rattle.std.specs.Prelude.{All, sum_by}
use Rattle.std.specs.List.{AllZip}
use Rattle.std.proofs.lemmas.Bool.{true≢false}
use Rattle.std.proofs.lemmas.List.{length_push}
use Rattle.std.proofs.lemmas.List.Elements.{All-nil, All-push}
use Rattle.std.proofs.lemmas.List.Sums.{sum_by_push}
use Rattle.pyr_num.specs.declared.limits.TheConstants.Limits.{TASKS, DATUMS, LEAST_LENGTH, LENGTH, COMM, ALL_READS, ALL_NODES, ALL_WORK, PRINTS}
use Rattle.pyr_num.specs.declared.name.Name.{Name}
use Rattle.pyr_body.specs.Written.{written_line_nodes}
use Rattle.pyr_graph.specs.declared.parts.TaskParts.{TaskParts}
use Rattle.pyr_graph.specs.declared.parts.DatumParts.{DatumParts}
use Rattle.pyr_graphtext.specs.declared.form.Form.TheVariants as forms
use Rattle.pyr_graphtext.specs.declared.stage.Stage.{Stage}
use Rattle.pyr_graphtext.specs.declared.stage.Stage.TheVariants.{Outside, AfterTask, AfterReads, InBody}
use Rattle.pyr_graphtext.specs.Line.{Line, Blank, Plain, Statement}
use Rattle.pyr_graphtext.specs.Statements.{nodes_of, work_of, WrittenBody}
use Rattle.pyr_graphtext.specs.Earlier.{stage_of, datum_names, datums, datum_ids, task_names, tasks, bodies, prints, all_reads, all_nodes, all_work, last_reads, last_writes, last_task, last_body}
use Rattle.pyr_graphtext.specs.Faults.{is_outside, AllPass}
use Rattle.pyr_graphtext.proofs.NameLemmas.{AreAmong, AreNew, AreNew-push, AreAmong-front, AreAmong-push}
use Rattle.pyr_graphtext.proofs.Passing.{TaskPass, data_line, task_line, reads_line, writes_line, end_line, print_line, statement_inside, statement_nodes}
use Rattle.pyr_graphtext.proofs.LawfulTasks.{reads_inside, writes_inside, tasks_held}

-- a datum within its limits
pub record IsFineDatum (d : DatumParts) : Type 0 where
  pub least : LEAST_LENGTH ≤ d.length
  pub most : d.length ≤ LENGTH
  pub light : d.comm ≤ COMM

-- the data
pub record HoldDatums (names : List Name) (datums : List DatumParts) : Type 0 where
  pub new : AreNew names
  pub named : length names ≡ length datums
  pub few : length datums ≤ DATUMS
  pub fine : All IsFineDatum datums

pub datums_held : (said : List Line) → AllPass said → HoldDatums (datum_names said) (datums said)
datums_held [] pass = record { new = tt; named = refl; few = omega arith; fine = All-nil IsFineDatum }
datums_held (Blank ∷ older) pass = datums_held older pass.0
datums_held (Plain (forms.Data name words comm) ∷ older) pass =
    let hold = datums_held older pass.0 in
    let line = data_line older name words comm pass.1 in
    let d : DatumParts = record { length = words; comm = comm } in
    let names_more = length_push (datum_names older) name in
    let datums_more = length_push (datums older) d in
    record {
      new = AreNew-push (datum_names older) name hold.new line.new;
      named = omega (arith, hold.named, names_more, datums_more);
      few = omega (arith, hold.named, line.room, datums_more);
      fine = All-push IsFineDatum (datums older) d hold.fine (record { least = line.least; most = line.most; light = line.light });
    }
datums_held (Plain (forms.Task name cost) ∷ older) pass = datums_held older pass.0
datums_held (Plain (forms.Reads names) ∷ older) pass = datums_held older pass.0
datums_held (Plain (forms.Writes names) ∷ older) pass = datums_held older pass.0
datums_held (Plain forms.End ∷ older) pass = datums_held older pass.0
datums_held (Plain (forms.Print name) ∷ older) pass = datums_held older pass.0
datums_held (Statement line ∷ older) pass = datums_held older pass.0

-- the prints
pub record HoldPrints (names prints : List Name) : Type 0 where
  pub known : AreAmong names prints
  pub new : AreNew prints
  pub few : length prints ≤ PRINTS

pub prints_held : (said : List Line) → AllPass said → HoldPrints (datum_names said) (prints said)
prints_held [] pass = record { known = tt; new = tt; few = omega arith }
prints_held (Blank ∷ older) pass = prints_held older pass.0
prints_held (Plain (forms.Data name words comm) ∷ older) pass =
    let hold = prints_held older pass.0 in
    record {
      known = AreAmong-front (datum_names older) (name ∷ []) (prints older) hold.known;
      new = hold.new;
      few = hold.few;
    }
prints_held (Plain (forms.Task name cost) ∷ older) pass = prints_held older pass.0
prints_held (Plain (forms.Reads names) ∷ older) pass = prints_held older pass.0
prints_held (Plain (forms.Writes names) ∷ older) pass = prints_held older pass.0
prints_held (Plain forms.End ∷ older) pass = prints_held older pass.0
prints_held (Plain (forms.Print name) ∷ older) pass =
    let hold = prints_held older pass.0 in
    let line = print_line older name pass.1 in
    record {
      known = AreAmong-push (datum_names older) (prints older) name hold.known line.known;
      new = AreNew-push (prints older) name hold.new line.new;
      few = omega (arith, line.room, length_push (prints older) name);
    }
prints_held (Statement line ∷ older) pass = prints_held older pass.0

-- a body with the slots of the task
pub record HasSlots (w : WrittenBody) (t : TaskParts) : Type 0 where
  pub reads : length w.reads ≡ length t.reads
  pub writes : length w.writes ≡ length t.writes

module _ {X Y : Type 0} (R : X → Y → Type 0) where
  pub zip_push : (xs : List X) (ys : List Y) (x : X) (y : Y) → AllZip R xs ys → R x y → AllZip R (xs ++ x ∷ []) (ys ++ y ∷ [])
  zip_push [] [] x y all is = (is, tt)
  zip_push [] (b ∷ ys) x y all is = absurd all
  zip_push (a ∷ xs) [] x y all is = absurd all
  zip_push (a ∷ xs) (b ∷ ys) x y all is = (all.0, zip_push xs ys x y all.1 is)

  pub zip_length : (xs : List X) (ys : List Y) → AllZip R xs ys → length xs ≡ length ys
  zip_length [] [] all = refl
  zip_length [] (b ∷ ys) all = absurd all
  zip_length (a ∷ xs) [] all = absurd all
  zip_length (a ∷ xs) (b ∷ ys) all = ap suc (zip_length xs ys all.1)

  pub zip_at : (xs : List X) (ys : List Y) (i : ℕ) (d : X) (e : Y) → AllZip R xs ys → i < length xs → R (get_or xs i d) (get_or ys i e)
  zip_at [] [] i d e all inside = absurd (let no_place : i < 0 = inside in omega (arith, no_place))
  zip_at [] (b ∷ ys) i d e all inside = absurd all
  zip_at (a ∷ xs) [] i d e all inside = absurd all
  zip_at (a ∷ xs) (b ∷ ys) zero d e all inside = all.0
  zip_at (a ∷ xs) (b ∷ ys) (suc i) d e all inside = zip_at xs ys i d e all.1 (omega arith)

-- the names of the tasks, the slots of their bodies, and the sums over all of them
pub record HoldCounts (stage : Stage) (names : List Name) (tasks : List TaskParts) (bodies : List WrittenBody) (reads nodes work : ℕ) (last : TaskParts) (last_body : WrittenBody) : Type 0 where
  pub new : AreNew names
  pub few : length names ≤ TASKS
  pub slots : AllZip HasSlots bodies tasks
  pub named_outside : is_outside stage ≡ true → length names ≡ length tasks
  pub named_inside : is_outside stage ≡ false → length names ≡ length tasks + 1
  pub few_reads : reads ≤ ALL_READS
  pub reads_outside : is_outside stage ≡ true → reads ≡ sum_by (λ t. length t.reads) tasks
  pub reads_within : is_outside stage ≡ false → reads ≡ sum_by (λ t. length t.reads) tasks + length last.reads
  pub few_nodes : nodes ≤ ALL_NODES
  pub nodes_outside : is_outside stage ≡ true → nodes ≡ sum_by (λ w. nodes_of w.lines) bodies
  pub nodes_within : is_outside stage ≡ false → nodes ≡ sum_by (λ w. nodes_of w.lines) bodies + nodes_of last_body.lines
  pub little_work : work ≤ ALL_WORK
  pub work_summed : work ≡ sum_by (λ w. work_of w.lines) bodies

module _ (stage : Stage) (names : List Name) (tasks : List TaskParts) (bodies : List WrittenBody) (reads nodes work : ℕ) (last : TaskParts) (last_body : WrittenBody) (hold : HoldCounts stage names tasks bodies reads nodes work last last_body) where
  -- outside tasks the last one may be any
  count-outside : (other : TaskParts) (other_body : WrittenBody) → is_outside stage ≡ true → HoldCounts stage names tasks bodies reads nodes work other other_body
  count-outside other other_body outside = record {
    new = hold.new;
    few = hold.few;
    slots = hold.slots;
    named_outside = hold.named_outside;
    named_inside = λ inside. absurd (true≢false (sym outside ∙ inside));
    few_reads = hold.few_reads;
    reads_outside = hold.reads_outside;
    reads_within = λ inside. absurd (true≢false (sym outside ∙ inside));
    few_nodes = hold.few_nodes;
    nodes_outside = hold.nodes_outside;
    nodes_within = λ inside. absurd (true≢false (sym outside ∙ inside));
    little_work = hold.little_work;
    work_summed = hold.work_summed;
  }

  -- a line `task`
  count-task : (name : Name) (cost : ℕ) → TaskPass stage names name cost
      → HoldCounts AfterTask (names ++ name ∷ []) tasks bodies reads nodes work (record { cost = cost; reads = []; writes = [] }) (record { reads = []; writes = []; lines = [] })
  count-task name cost line =
      let more = length_push names name in
      record {
        new = AreNew-push names name hold.new line.new;
        few = omega (arith, more, line.room);
        slots = hold.slots;
        named_outside = λ outside. absurd (true≢false (sym outside));
        named_inside = λ _. omega (arith, more, hold.named_outside line.outside);
        few_reads = hold.few_reads;
        reads_outside = λ outside. absurd (true≢false (sym outside));
        reads_within = λ _. omega (arith, hold.reads_outside line.outside);
        few_nodes = hold.few_nodes;
        nodes_outside = λ outside. absurd (true≢false (sym outside));
        nodes_within = λ _. omega (arith, hold.nodes_outside line.outside);
        little_work = hold.little_work;
        work_summed = hold.work_summed;
      }

  -- a line within a task that is not its end: some reads more, some nodes more
  module _ (next : Stage) (now : TaskParts) (body : WrittenBody) (more_reads more_nodes : ℕ)
      (inside : is_outside stage ≡ false) (within : is_outside next ≡ false)
      (reads_now : length now.reads ≡ length last.reads + more_reads) (nodes_now : nodes_of body.lines ≡ nodes_of last_body.lines + more_nodes)
      (few_reads : reads + more_reads ≤ ALL_READS) (few_nodes : nodes + more_nodes ≤ ALL_NODES) where
    count-inside : HoldCounts next names tasks bodies (reads + more_reads) (nodes + more_nodes) work now body
    count-inside = record {
      new = hold.new;
      few = hold.few;
      slots = hold.slots;
      named_outside = λ outside. absurd (true≢false (sym outside ∙ within));
      named_inside = λ _. hold.named_inside inside;
      few_reads = few_reads;
      reads_outside = λ outside. absurd (true≢false (sym outside ∙ within));
      reads_within = λ _. omega (arith, hold.reads_within inside, reads_now);
      few_nodes = few_nodes;
      nodes_outside = λ outside. absurd (true≢false (sym outside ∙ within));
      nodes_within = λ _. omega (arith, hold.nodes_within inside, nodes_now);
      little_work = hold.little_work;
      work_summed = hold.work_summed;
    }

  -- a line `end`
  count-end : (other : TaskParts) (other_body : WrittenBody) → is_outside stage ≡ false → work + work_of last_body.lines ≤ ALL_WORK → HasSlots last_body last
      → HoldCounts Outside names (tasks ++ last ∷ []) (bodies ++ last_body ∷ []) reads nodes (work + work_of last_body.lines) other other_body
  count-end other other_body inside little slots =
      let more = length_push tasks last in
      record {
        new = hold.new;
        few = hold.few;
        slots = zip_push HasSlots bodies tasks last_body last hold.slots slots;
        named_outside = λ _. omega (arith, more, hold.named_inside inside);
        named_inside = λ within. absurd (true≢false within);
        few_reads = hold.few_reads;
        reads_outside = λ _. hold.reads_within inside ∙ sym (sum_by_push (λ (t : TaskParts). length t.reads) tasks last);
        reads_within = λ within. absurd (true≢false within);
        few_nodes = hold.few_nodes;
        nodes_outside = λ _. hold.nodes_within inside ∙ sym (sum_by_push (λ (w : WrittenBody). nodes_of w.lines) bodies last_body);
        nodes_within = λ within. absurd (true≢false within);
        little_work = little;
        work_summed =
            ap (λ (n : ℕ). n + work_of last_body.lines) hold.work_summed
            ∙ sym (sum_by_push (λ (w : WrittenBody). work_of w.lines) bodies last_body);
      }

-- what the lines count, in plain numbers
abbrev HeldBehind : List Line → List Line → ℕ → ℕ → Type 0
HeldBehind said older reads nodes =
    HoldCounts (stage_of said) (task_names older) (tasks older) (bodies older) reads nodes (all_work older) (last_task said) (last_body said)

ids_length : (names xs : List Name) → length (datum_ids names xs) ≡ length xs
ids_length names [] = refl
ids_length names (x ∷ xs) = ap suc (ids_length names xs)

plus_none : (n : ℕ) → n + 0 ≡ n
plus_none n = omega arith

pub counts_held : (said : List Line) → AllPass said
    → HoldCounts (stage_of said) (task_names said) (tasks said) (bodies said) (all_reads said) (all_nodes said) (all_work said) (last_task said) (last_body said)
counts_held [] pass = record {
  new = tt;
  few = omega arith;
  slots = tt;
  named_outside = λ _. refl;
  named_inside = λ inside. absurd (true≢false inside);
  few_reads = omega arith;
  reads_outside = λ _. refl;
  reads_within = λ inside. absurd (true≢false inside);
  few_nodes = omega arith;
  nodes_outside = λ _. refl;
  nodes_within = λ inside. absurd (true≢false inside);
  little_work = omega arith;
  work_summed = refl;
}
counts_held (Blank ∷ older) pass = counts_held older pass.0
counts_held (Plain (forms.Data name words comm) ∷ older) pass =
    count-outside (stage_of older) (task_names older) (tasks older) (bodies older) (all_reads older) (all_nodes older) (all_work older) (last_task older) (last_body older) (counts_held older pass.0)
    _ _ (data_line older name words comm pass.1).outside
counts_held (Plain (forms.Task name cost) ∷ older) pass =
    count-task (stage_of older) (task_names older) (tasks older) (bodies older) (all_reads older) (all_nodes older) (all_work older) (last_task older) (last_body older) (counts_held older pass.0)
    name cost (task_line older name cost pass.1)
counts_held (Plain (forms.Reads names) ∷ older) pass =
    let hold = counts_held older pass.0 in
    let line = reads_line older names pass.1 in
    let none : length (last_task older).reads ≡ 0 = ap (λ ids. length ids) ((tasks_held older pass.0).no_reads line.may) in
    let read : length (datum_ids (datum_names older) names) ≡ length names = ids_length (datum_names older) names in
    let held : HeldBehind (Plain (forms.Reads names) ∷ older) older (all_reads older + length names) (all_nodes older + 0) =
    count-inside (stage_of older) (task_names older) (tasks older) (bodies older) (all_reads older) (all_nodes older) (all_work older) (last_task older) (last_body older) hold
    AfterReads (last_task (Plain (forms.Reads names) ∷ older)) (last_body (Plain (forms.Reads names) ∷ older)) (length names) 0
    (reads_inside (stage_of older) line.may) refl (omega (arith, none, read)) (omega arith) line.few_in_all (omega (arith, hold.few_nodes)) in
    rw plus_none at held
counts_held (Plain (forms.Writes names) ∷ older) pass =
    let hold = counts_held older pass.0 in
    let line = writes_line older names pass.1 in
    let held : HeldBehind (Plain (forms.Writes names) ∷ older) older (all_reads older + 0) (all_nodes older + 0) =
    count-inside (stage_of older) (task_names older) (tasks older) (bodies older) (all_reads older) (all_nodes older) (all_work older) (last_task older) (last_body older) hold
    InBody (last_task (Plain (forms.Writes names) ∷ older)) (last_body (Plain (forms.Writes names) ∷ older)) 0 0
    (writes_inside (stage_of older) line.may) refl (omega arith) (omega arith) (omega (arith, hold.few_reads)) (omega (arith, hold.few_nodes)) in
    simp plus_none at held
counts_held (Plain forms.End ∷ older) pass =
    let line = end_line older pass.1 in
    count-end (stage_of older) (task_names older) (tasks older) (bodies older) (all_reads older) (all_nodes older) (all_work older) (last_task older) (last_body older) (counts_held older pass.0)
    _ _ line.inside line.work_in_all
    (record { reads = sym (ids_length (datum_names older) (last_reads older)); writes = sym (ids_length (datum_names older) (last_writes older)) })
counts_held (Plain (forms.Print name) ∷ older) pass = counts_held older pass.0
counts_held (Statement line ∷ older) pass =
    let hold = counts_held older pass.0 in
    let held : HeldBehind (Statement line ∷ older) older (all_reads older + 0) (all_nodes older + written_line_nodes line) =
    count-inside (stage_of older) (task_names older) (tasks older) (bodies older) (all_reads older) (all_nodes older) (all_work older) (last_task older) (last_body older) hold
    InBody (last_task (Statement line ∷ older)) (last_body (Statement line ∷ older)) 0 (written_line_nodes line)
    (statement_inside older line pass.1) refl (omega arith) refl (omega (arith, hold.few_reads)) (statement_nodes older line hold.few_nodes pass.1) in
    rw plus_none at held
