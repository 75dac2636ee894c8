-- The tasks of a program, run one by one over a table of the words of its data.
use Rattle.std.proofs.Common.{◌≡◌, ◌≢◌, ℕ, zero, suc, ◌+◌, ◌<◌, ◌≤◌, inl, inr, true, false, List, [], ◌∷◌, ◌++◌, length, get_or, set, take, drop, map, arith, refl, ap, sym, ◌∙◌, Option, None, eqb-true, eq-eqb, ◌⊎◌, subst}
use Rattle.std.specs.Prelude.{nat_eq, unwrap_or, All, AllPairs, Contains, if◌then◌else◌}
use Rattle.std.specs.List.{list_any}
use Rattle.std.proofs.lemmas.Bool.{cases_Bool, false_from_ne_true, true≢false}
use Rattle.std.proofs.lemmas.List.{take_more, map_push, map-append, length-map, length-set, take_all, take-append-drop, drop_more, length-drop, get_or-drop, get_or-map, get_or-set_same, get_or-set_other}
use Rattle.std.proofs.lemmas.List.Elements.{All-head, All-tail, All-same, All-weaker, recursion_from_All, Contains-get_or}
use Rattle.std.proofs.lemmas.List.Folds.{list_any_none}
use Rattle.pyr_num.specs.declared.ids.DatumId.{DatumId}
use Rattle.pyr_num.specs.declared.ids.TaskId.{TaskId}
use Rattle.pyr_num.specs.Cells.{list_at}
use Rattle.pyr_seq.specs.Sequential.{Tasks, Store, inputs_of, entry_at, run_task, run_all, values, value_of}
use Rattle.pyr_seq.proofs.SequentialLemmas.{Writes, run_all-other, values-same, values-lengths}
use Rattle.pyr_graph.specs.System.{System, task_count, datum_count, datum_numbers, task_numbers, task_at, reads_of, writes_of, writer_of, length_of}
use Rattle.pyr_graph.specs.WholeGraph.{IsGraph}
use Rattle.pyr_graph.proofs.ListLemmas.{nat_eq-apart, Contains-tested}
use Rattle.pyr_graphtext.specs.Program.{ProgramParts, tasks_of}
use Rattle.pyr_graphtext.specs.Sequential.{IsOrder, AreValues, AreOutputs, AnyOrderGivesTheValues}
use Rattle.pyr_graphtext.specs.Running.{words_of, inputs_from, AreReady, stored, table_behind}
use Rattle.pyr_graphtext.proofs.MeaningLemmas.{makes_lengths, one_writer_of}

-- any two topological orders give the same values
pub any_order : AnyOrderGivesTheValues
any_order p frame order other graph top top' d =
    values-same (tasks_of p frame) order other (one_writer_of p frame graph) top top' d

-- maps that agree at each datum
map_same : (f g : ℕ → List ℕ) (datums : List DatumId) → All (λ d. f d.0 ≡ g d.0) datums → map f (datum_numbers datums) ≡ map g (datum_numbers datums)
map_same f g [] all = refl
map_same f g (d ∷ ds) all =
    λ i. All-head (λ (d : DatumId). f d.0 ≡ g d.0) d ds all i ∷ map_same f g ds (All-tail (λ (d : DatumId). f d.0 ≡ g d.0) d ds all) i

-- a list at its slot
pub list_at-get_or : (lists : List (List ℕ)) (k : ℕ) → list_at lists k ≡ get_or lists k []
list_at-get_or [] k = refl
list_at-get_or (l ∷ lists) zero = refl
list_at-get_or (l ∷ lists) (suc k) = list_at-get_or lists k

-- one list more in the table
pub stored_more : (datums : List DatumId) (lists table : List (List ℕ)) (i : ℕ) (e : DatumId) → i < length datums → length lists ≡ length datums
    → stored (datum_numbers (drop i datums)) (drop i lists) table ≡ stored (datum_numbers (drop (i + 1) datums)) (drop (i + 1) lists) (set table (get_or datums i e).0 (list_at lists i))
stored_more datums lists table i e inside same =
    let there : i < length lists = omega arith in
    let first = drop_more datums i e inside in
    let second = drop_more lists i [] there in
    (λ j. stored (datum_numbers (first j)) (second j) table)
    ∙ ap (λ (l : List ℕ). stored (datum_numbers (drop (i + 1) datums)) (drop (i + 1) lists) (set table (get_or datums i e).0 l)) (sym (list_at-get_or lists i))

-- the words of a datum are those of its place among the data stored
stored_length : (ds : List ℕ) (lists table : List (List ℕ)) → length (stored ds lists table) ≡ length table
stored_length [] lists table = refl
stored_length (d ∷ ds) [] table = refl
stored_length (d ∷ ds) (l ∷ lists) table = stored_length ds lists (set table d l) ∙ length-set table d l

stored_at : (ds : List ℕ) (lists table : List (List ℕ)) (d : ℕ) → length lists ≡ length ds → AllPairs (λ d e. d ≢ e) ds → d < length table
    → words_of (stored ds lists table) d ≡ (if list_any (nat_eq d) ds then unwrap_or (entry_at ds lists d) [] else words_of table d)
stored_at [] lists table d same once d_in = refl
stored_at (w ∷ ds) [] table d same once d_in = absurd (omega arith)
stored_at (w ∷ ds) (l ∷ lists) table d same once d_in = at (cases_Bool (nat_eq d w)) (stored_at ds lists (set table w l) d (omega arith) (λ i j e less inside. once (suc i) (suc j) e (omega arith) (omega arith)) (rw length-set d_in))
  where
    new : nat_eq d w ≡ true → list_any (nat_eq d) ds ≡ false
    new is = list_any_none (nat_eq d) ds (λ k e inside. nat_eq-apart d (get_or ds k e) (λ also. once zero (suc k) e (omega arith) (omega arith) (sym (eqb-true d w is) ∙ also)))

    at : (nat_eq d w ≡ true) ⊎ (nat_eq d w ≡ false)
        → words_of (stored ds lists (set table w l)) d ≡ (if list_any (nat_eq d) ds then unwrap_or (entry_at ds lists d) [] else words_of (set table w l) d)
        → words_of (stored (w ∷ ds) (l ∷ lists) table) d ≡ (if list_any (nat_eq d) (w ∷ ds) then unwrap_or (entry_at (w ∷ ds) (l ∷ lists) d) [] else words_of table d)
    at (inl here) rest =
        let none = new here in
        let equal : d ≡ w = eqb-true d w here in
        let found : words_of (set table w l) d ≡ l = ap (λ (n : ℕ). words_of (set table w l) n) equal ∙ get_or-set_same table w l [] (rw (← equal) d_in) in
        rw here ((rw none at rest) ∙ found)
    at (inr apart) rest =
        let other : d ≢ w = λ equal. true≢false (sym (eq-eqb d w equal) ∙ apart) in
        let kept : words_of (set table w l) d ≡ words_of table d = get_or-set_other table w d l [] other in
        rw apart (rw kept at rest)

-- one task more
run_all_push : (tasks : Tasks) (xs : List ℕ) (t : ℕ) (store : Store) → run_all tasks (xs ++ t ∷ []) store ≡ run_task tasks t (run_all tasks xs store)
run_all_push tasks [] t store = refl
run_all_push tasks (x ∷ xs) t store = run_all_push tasks xs t (run_task tasks x store)

run_all-append : (tasks : Tasks) (xs ys : List ℕ) (store : Store) → run_all tasks (xs ++ ys) store ≡ run_all tasks ys (run_all tasks xs store)
run_all-append tasks [] ys store = refl
run_all-append tasks (x ∷ xs) ys store = run_all-append tasks xs ys (run_task tasks x store)

-- so many tasks of the order have run, and the table has the words of the store that they leave
pub record HaveRun (p : ProgramParts) (frame : ℕ) (order : List TaskId) (i : ℕ) (table : List (List ℕ)) : Type 0 where
  pub full : length table ≡ datum_count p.graph
  pub held : (d : ℕ) → d < datum_count p.graph → words_of table d ≡ unwrap_or (values (tasks_of p frame) (task_numbers (take i order)) d) []

module _ (p : ProgramParts) (frame : ℕ) (graph : IsGraph p.graph) (order : List TaskId) (i : ℕ) (table : List (List ℕ)) (run : HaveRun p frame order i table) where
  abbrev tasks : Tasks
  tasks = tasks_of p frame

  abbrev so_far : Store
  so_far = values (tasks_of p frame) (task_numbers (take i order))

  module _ (e : TaskId) (inside : i < length order) where
    abbrev here : ℕ
    here = (get_or order i e).0

    -- the next task is given what it looks up
    given : inputs_from table (reads_of p.graph here) ≡ inputs_of (tasks_of p frame) so_far here
    given = map_same (words_of table) (λ d. unwrap_or (so_far d) []) (task_at p.graph here).reads
        (All-weaker (λ (d : DatumId). d.0 < datum_count p.graph) (λ d. words_of table d.0 ≡ unwrap_or (so_far d.0) []) (λ d d_in. run.held d.0 d_in) (task_at p.graph here).reads (graph.holds.reads here))

    next_store : values (tasks_of p frame) (task_numbers (take (i + 1) order)) ≡ run_task (tasks_of p frame) here so_far
    next_store =
        ap (λ (ts : List TaskId). values (tasks_of p frame) (task_numbers ts)) (take_more order i e inside)
        ∙ ap (λ (ts : List ℕ). values (tasks_of p frame) ts) (map_push (λ (t : TaskId). t.0) (take i order) (get_or order i e))
        ∙ run_all_push (tasks_of p frame) (task_numbers (take i order)) here (λ _. None)

    -- and its outputs are stored
    pub HaveRun-step : here < task_count p.graph → HaveRun p frame order (i + 1) (table_behind (tasks_of p frame) here table)
    HaveRun-step here_in =
        let outs : List (List ℕ) = tasks.outputs here (inputs_from table (reads_of p.graph here)) in
        let many : length outs ≡ length (writes_of p.graph here) =
        sym (length-map outs (λ (l : List ℕ). length l)) ∙ ap (λ (ns : List ℕ). length ns) (makes_lengths p frame here (inputs_from table (reads_of p.graph here)) here_in) ∙ length-map (writes_of p.graph here) (length_of p.graph) in
        record {
          full = stored_length (writes_of p.graph here) outs table ∙ run.full;
          held = λ d d_in.
              stored_at (writes_of p.graph here) outs table d many (graph.writes_once here) (omega (arith, run.full))
              ∙ behind d (run.held d d_in)
              ∙ ap (λ (s : Store). unwrap_or (s d) []) (sym next_store);
        }
      where
        behind : (d : ℕ) → words_of table d ≡ unwrap_or (so_far d) []
            → (if list_any (nat_eq d) (writes_of p.graph here) then unwrap_or (entry_at (writes_of p.graph here) ((tasks_of p frame).outputs here (inputs_from table (reads_of p.graph here))) d) [] else words_of table d)
            ≡ unwrap_or (run_task (tasks_of p frame) here so_far d) []
        behind d held = elim (cases_Bool (list_any (nat_eq d) (writes_of p.graph here))) [
          | inl is ↦ rw (is, given)
          | inr is_not ↦ rw is_not held
        ]

  -- the data that the next task reads have their words: no task that comes later writes them
  module _ (top : IsOrder p.graph (task_numbers order)) (e : TaskId) (inside : i < length order) where
    abbrev next : ℕ
    next = (get_or order i e).0

    place : (k : ℕ) → k < length order → (f : ℕ) → get_or (task_numbers order) k f ≡ (get_or order k e).0
    place k k_in f = get_or-map (λ (t : TaskId). t.0) order k e f k_in

    pub next_in : next < task_count p.graph
    next_in = rw place at (top.tasks i 0 (rw length-map inside))

    later : (d : ℕ) → Contains (reads_of p.graph next) d → All (λ u. Writes (tasks_of p frame) u d ≡ false) (task_numbers (drop i order))
    later d read k f k_in =
        let rest : k < length (drop i order) = rw length-map at k_in in
        let within : i + k < length order = omega (arith, length-drop i order) in
        let many : length (task_numbers order) ≡ length order = length-map order (λ (t : TaskId). t.0) in
        let is : get_or (task_numbers (drop i order)) k f ≡ get_or (task_numbers order) (i + k) 0 =
        get_or-map (λ (t : TaskId). t.0) (drop i order) k e f rest ∙ ap (λ (t : TaskId). t.0) (get_or-drop i order k e) ∙ sym (place (i + k) within 0) in
        let this : get_or (task_numbers order) i 0 ≡ next = place i inside 0 in
        rw is
        (false_from_ne_true (Writes (tasks_of p frame) (get_or (task_numbers order) (i + k) 0) d) (λ writes.
        let back = top.before (i + k) i (omega (arith, top.full)) (omega (arith, top.full)) (d, Contains-tested d (writes_of p.graph (get_or (task_numbers order) (i + k) 0)) writes, rw this read) in
        omega (arith, back)))

    kept : (d : ℕ) → Contains (reads_of p.graph next) d → values (tasks_of p frame) (task_numbers order) d ≡ so_far d
    kept d read =
        ap (λ (ts : List TaskId). values (tasks_of p frame) (task_numbers ts) d) (sym (take-append-drop i order))
        ∙ ap (λ (ts : List ℕ). values (tasks_of p frame) ts d) (map-append (λ (t : TaskId). t.0) (take i order) (drop i order))
        ∙ ap (λ (s : Store). s d) (run_all-append (tasks_of p frame) (task_numbers (take i order)) (task_numbers (drop i order)) (λ _. None))
        ∙ run_all-other (tasks_of p frame) (task_numbers (drop i order)) d so_far
        (recursion_from_All (λ u. Writes (tasks_of p frame) u d ≡ false) (task_numbers (drop i order)) (later d read))

    has_words : (d : ℕ) → d < datum_count p.graph → Contains (reads_of p.graph next) d → length (words_of table d) ≡ length_of p.graph d
    has_words d d_in read =
        let written = graph.some_writer d d_in in
        ap length (run.held d d_in)
        ∙ ap (λ (o : Option (List ℕ)). length (unwrap_or o [])) (sym (kept d read))
        ∙ (values-lengths (tasks_of p frame) (length_of p.graph) (task_numbers order) (one_writer_of p frame graph) top (makes_lengths p frame) (writer_of p.graph d) d written.0 written.1).1

    pub AreReady-next : AreReady p.graph table next
    AreReady-next k f k_in =
        let is : get_or (reads_of p.graph next) k 0 ≡ (get_or (task_at p.graph next).reads k f).0 = get_or-map (λ (d : DatumId). d.0) (task_at p.graph next).reads k f 0 k_in in
        has_words (get_or (task_at p.graph next).reads k f).0 (graph.holds.reads next k f k_in)
        (rw is at (Contains-get_or (reads_of p.graph next) k 0 (rw length-map k_in)))

  pub HaveRun-end : IsOrder p.graph (task_numbers order) → length order ≤ i → AreValues p frame table
  HaveRun-end top done = record {
    full = run.full;
    each = λ other top' d d_in.
        run.held d d_in
        ∙ ap (λ (ts : List TaskId). value_of (tasks_of p frame) (task_numbers ts) d) (take_all i order done)
        ∙ ap (λ (o : Option (List ℕ)). unwrap_or o []) (any_order p frame (task_numbers order) other graph top top' d);
  }

-- the words of the printed data
pub outputs_held : (p : ProgramParts) (frame : ℕ) (table lists : List (List ℕ)) → IsGraph p.graph → AreValues p frame table
    → lists ≡ inputs_from table (datum_numbers p.graph.prints) → AreOutputs p frame lists
outputs_held p frame table lists graph held is order top =
    is ∙ map_same (words_of table) (value_of (tasks_of p frame) order) p.graph.prints
    (All-weaker (λ (d : DatumId). d.0 < datum_count p.graph) (λ d. words_of table d.0 ≡ value_of (tasks_of p frame) order d.0) (λ d d_in. held.each order top d.0 d_in) p.graph.prints graph.holds.prints)

-- the graph of a program under another name
pub graph_moved : (graph other : System) → graph ≡ other → IsGraph graph → IsGraph other
graph_moved graph other same is = subst (λ (g : System). IsGraph g) same is

pub order_moved : (graph other : System) (order : List ℕ) → graph ≡ other → IsOrder graph order → IsOrder other order
order_moved graph other order same is = subst (λ (g : System). IsOrder g order) same is

-- the printed data have a place in the table
pub prints_placed : (p : ProgramParts) (frame : ℕ) (table : List (List ℕ)) (prints : List DatumId) → IsGraph p.graph → AreValues p frame table → prints ≡ p.graph.prints
    → All (λ d. d.0 < length table) prints
prints_placed p frame table prints graph held is =
    All-same (λ (d : DatumId). d.0 < length table) prints p.graph.prints is
    (All-weaker (λ (d : DatumId). d.0 < datum_count p.graph) (λ d. d.0 < length table) (λ d d_in. omega (arith, held.full, d_in)) p.graph.prints graph.holds.prints)
