-- How much of a program lines say: so many of its data and of its tasks, and these prints.
use Rattle.std.proofs.Common.{◌≡◌, ℕ, zero, suc, ◌+◌, ◌<◌, ◌≤◌, Bool, true, false, List, [], ◌∷◌, ◌++◌, length, take, get_or, inl, inr, refl, sym, ap, subst, ◌∙◌, arith}
use Rattle.std.specs.Prelude.{◌≢◌, ◌⊎◌, ◌||◌, AllPairs, All, Contains, sum_by}
use Rattle.std.specs.List.{AllZip}
use Rattle.std.proofs.lemmas.Bool.{cases_Bool}
use Rattle.std.proofs.lemmas.List.{get_or_default, map-append}
use Rattle.std.proofs.lemmas.List.Elements.{All-weaker, All-append}
use Rattle.std.proofs.lemmas.List.Folds.{list_any-append}
use Rattle.std.proofs.lemmas.List.Sums.{sum_by_more}
use Rattle.pyr_num.specs.declared.ids.DatumId.{DatumId}
use Rattle.pyr_num.specs.declared.name.Name.{Name}
use Rattle.pyr_body.specs.Body.{AreDistinct}
use Rattle.pyr_body.specs.Parts.{BodyParts}
use Rattle.pyr_body.specs.Size.{statements_nodes, statements_work}
use Rattle.pyr_graph.specs.declared.parts.TaskParts.{TaskParts}
use Rattle.pyr_graph.specs.System.{task_count, datum_count, task_at, datum_numbers, reads_of, writes_of}
use Rattle.pyr_graph.specs.WholeGraph.{IsGraph}
use Rattle.pyr_graphtext.specs.declared.stage.Stage.TheVariants.{Outside}
use Rattle.pyr_graphtext.specs.Line.{Line}
use Rattle.pyr_graphtext.specs.Statements.{is_among, IsBodyOf}
use Rattle.pyr_graphtext.specs.Earlier.{stage_of, datum_names, datums, task_names, tasks, bodies, written, prints, all_reads, all_nodes, all_work}
use Rattle.pyr_graphtext.specs.Program.{ProgramParts, IsProgram}
use Rattle.pyr_graphtext.specs.Canonical.{read_names, written_names}
use Rattle.pyr_graphtext.proofs.Pairs.{AllPairs-append}
use Rattle.pyr_graphtext.proofs.NumberedNames.{nth, Exist, named_distinct, number_among}

-- the reads of a task, the nodes and the work of a body
abbrev pub reads_in_task : TaskParts → ℕ
reads_in_task t = length t.reads

abbrev pub nodes_in : BodyParts → ℕ
nodes_in b = statements_nodes b.statements

abbrev pub work_in : BodyParts → ℕ
work_in b = statements_work b.statements

-- the names of the data that the first tasks write
abbrev pub names_written : ProgramParts → ℕ → List Name
names_written p zero = []
names_written p (suc t) = names_written p t ++ written_names p t

pub record IsReadTo (p : ProgramParts) (d t : ℕ) (printed : List Name) (said : List Line) : Type 0 where
  pub outside : stage_of said ≡ Outside
  pub names_are : datum_names said ≡ take d p.datum_names
  pub datums_are : datums said ≡ take d p.graph.datums
  pub task_names_are : task_names said ≡ take t p.task_names
  pub tasks_are : tasks said ≡ take t p.graph.tasks
  pub bodies_are : AllZip IsBodyOf (bodies said) (take t p.bodies)
  pub written_are : written said ≡ names_written p t
  pub prints_are : prints said ≡ printed
  pub reads_are : all_reads said ≡ sum_by reads_in_task (take t p.graph.tasks)
  pub nodes_are : all_nodes said ≡ sum_by nodes_in (take t p.bodies)
  pub work_are : all_work said ≡ sum_by work_in (take t p.bodies)

-- nothing
pub nothing_read : (p : ProgramParts) → IsReadTo p 0 0 [] []
nothing_read p = record {
  outside = refl;
  names_are = refl;
  datums_are = refl;
  task_names_are = refl;
  tasks_are = refl;
  bodies_are = tt;
  written_are = refl;
  prints_are = refl;
  reads_are = refl;
  nodes_are = refl;
  work_are = refl;
}

-- sums over one element more
pub sum_more : {X : Type 0} (f : X → ℕ) (xs : List X) (i : ℕ) (d : X) → i < length xs → sum_by f (take (suc i) xs) ≡ sum_by f (take i xs) + f (get_or xs i d)
sum_more f xs i d inside =
    let one : suc i ≡ i + 1 = omega arith in
    ap (λ (n : ℕ). sum_by f (take n xs)) one ∙ sum_by_more f xs i d inside

module _ (p : ProgramParts) (g : IsGraph p.graph) (is : IsProgram p) where
  -- data that exist have names
  pub have_names : (ids : List DatumId) → All (λ d. d.0 < datum_count p.graph) ids → Exist p.datum_names is.datums_differ ids
  have_names ids all = All-weaker (λ d. d.0 < datum_count p.graph) (λ d. d.0 < length p.datum_names) (λ d inside. omega (arith, inside, is.datum_names)) ids all

  -- a datum that one of the first tasks writes
  pub written_before : (n x : ℕ) → n ≤ task_count p.graph → x < length p.datum_names → is_among (names_written p n) (nth p.datum_names is.datums_differ x) ≡ true
      → (u : ℕ) × (u < n) × Contains (writes_of p.graph u) x
  written_before zero x few inside e = absurd (let s : false ≡ true = e in cc)
  written_before (suc n) x few inside e =
      by_either (is_among (names_written p n) (nth p.datum_names is.datums_differ x)) refl
      (sym (list_any-append (Rattle.std.specs.Prelude.bytes_eq (nth p.datum_names is.datums_differ x)) (names_written p n) (written_names p n)) ∙ e)
      (written_before n x (omega (arith, few)) inside)
    where
      by_either : (b : Bool) → is_among (names_written p n) (nth p.datum_names is.datums_differ x) ≡ b
          → (is_among (names_written p n) (nth p.datum_names is.datums_differ x) || is_among (written_names p n) (nth p.datum_names is.datums_differ x)) ≡ true
          → (is_among (names_written p n) (nth p.datum_names is.datums_differ x) ≡ true → (u : ℕ) × (u < n) × Contains (writes_of p.graph u) x)
          → (u : ℕ) × (u < suc n) × Contains (writes_of p.graph u) x
      by_either true e either front = let u = front e in (u.0, omega (arith, u.1), u.2)
      by_either false e either front =
          (n, omega arith, number_among p.datum_names is.datums_differ (task_at p.graph n).writes x (have_names (task_at p.graph n).writes (g.holds.writes n)) inside (rw e at either))

  -- so no datum of the next task is one of these
  pub first_writer : (t x : ℕ) → t < task_count p.graph → x < length p.datum_names → Contains (writes_of p.graph t) x → is_among (names_written p t) (nth p.datum_names is.datums_differ x) ≡ false
  first_writer t x below inside writes = elim (cases_Bool (is_among (names_written p t) (nth p.datum_names is.datums_differ x))) [
    | inl there ↦ absurd (twice (written_before t x (omega (arith, below)) inside there))
    | inr not_there ↦ not_there
  ]
    where
      twice : (u : ℕ) × (u < t) × Contains (writes_of p.graph u) x → ⊥
      twice u =
          let one = g.one_writer x u.0 (omega (arith, u.1, below), u.2) in
          let two = g.one_writer x t (below, writes) in
          omega (arith, u.1, one, two)

  -- the data that a task reads and writes differ
  pub slots_differ : (t : ℕ) → t < task_count p.graph → AreDistinct (read_names p t ++ written_names p t)
  slots_differ t below =
      subst AreDistinct (map-append (λ (d : DatumId). nth p.datum_names is.datums_differ d.0) rs ws)
      (named_distinct p.datum_names is.datums_differ (rs ++ ws) (All-append (λ d. d.0 < length p.datum_names) rs ws (have_names rs (g.holds.reads t)) (have_names ws (g.holds.writes t)))
      (subst (AllPairs (λ d e. d ≢ e)) (sym (map-append (λ (d : DatumId). d.0) rs ws)) (AllPairs-append (λ d e. d ≢ e) (datum_numbers rs) (datum_numbers ws) (g.reads_once t) (g.writes_once t) apart)))
    where
      rs : List DatumId
      rs = (task_at p.graph t).reads

      ws : List DatumId
      ws = (task_at p.graph t).writes

      apart : All (λ x. All (λ y. x ≢ y) (datum_numbers ws)) (datum_numbers rs)
      apart i d inside j e there same =
          let x : ℕ = get_or (datum_numbers rs) i d in
          let read : Contains (reads_of p.graph t) x = (i, inside, get_or_default (datum_numbers rs) i x d inside) in
          let write : Contains (writes_of p.graph t) x = (j, there, get_or_default (datum_numbers ws) j x e there ∙ sym same) in
          g.acyclic (t ∷ [], ((x, write, read), tt))
