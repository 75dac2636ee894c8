-- Lines without fault make a lawful system, and a program with the bodies that are written so.
use Rattle.std.proofs.Common.{◌≡◌, ℕ, ◌<◌, ◌≤◌, true, false, List, [], ◌∷◌, ◌++◌, length, arith, refl, ap, sym, ◌∙◌, Some, None, inl, inr, le-ltb, subst}
use Rattle.std.specs.Prelude.{nat_lt, All, sum_by}
use Rattle.std.specs.List.{AllZip, flat_map}
use Rattle.std.proofs.lemmas.Bool.{or_from, cases_order}
use Rattle.std.proofs.lemmas.List.{length-map}
use Rattle.std.proofs.lemmas.List.Elements.{All-weaker, All-head, All-tail}
use Rattle.std.proofs.lemmas.List.Folds.{list_any_none}
use Rattle.std.proofs.lemmas.List.Sums.{sum_by-cons}
use Rattle.pyr_num.specs.declared.limits.Quantity.{Quantity}
use Rattle.pyr_num.specs.declared.limits.Quantity.TheVariants.{Tasks, Datums, Length, Comm, Cost, Reads, AllReads, Writes, Prints}
use Rattle.pyr_num.specs.declared.limits.TheConstants.Limits.{TASKS, DATUMS, LEAST_LENGTH, LENGTH, COMM, LEAST_COST, COST, READS, ALL_READS, WRITES, PRINTS}
use Rattle.pyr_num.specs.declared.ids.DatumId.{DatumId}
use Rattle.pyr_body.specs.Body.{AreDistinct}
use Rattle.pyr_body.specs.Parts.{BodyParts}
use Rattle.pyr_body.specs.Tree as tree
use Rattle.pyr_body.specs.Size.{statements_nodes, statements_work}
use Rattle.pyr_graph.specs.declared.parts.TaskParts.{TaskParts}
use Rattle.pyr_graph.specs.declared.fault.GraphFault.TheVariants as graph_faults
use Rattle.pyr_graph.specs.System.{System, HoldsItsData, datum_numbers, writes_of, task_in}
use Rattle.pyr_graph.specs.Bounds.{is_outside as is_past, passes, first_passed}
use Rattle.pyr_graph.specs.Faults.{first_repeated, first_repeated_of, lists_of, first_duplicate, IsWrittenTwice, IsFault}
use Rattle.pyr_graph.proofs.ListLemmas.{tested-Contains}
use Rattle.pyr_graph.proofs.SoundLemmas.{HoldsItsData-from_lists}
use Rattle.pyr_graphtext.specs.declared.stage.Stage.TheVariants.{Outside}
use Rattle.pyr_graphtext.specs.Line.{Line}
use Rattle.pyr_graphtext.specs.Statements.{WrittenBody, IsBodyOf, nodes_of, work_of}
use Rattle.pyr_graphtext.specs.Earlier.{stage_of, datum_names, datums, datum_ids, task_names, tasks, bodies, prints, written}
use Rattle.pyr_graphtext.specs.Faults.{is_outside, AllPass}
use Rattle.pyr_graphtext.specs.Program.{IsProgram, program_of}
use Rattle.pyr_graphtext.specs.Said.{system_said}
use Rattle.pyr_graphtext.proofs.Sizes.{nodes_of-body, work_of-body}
use Rattle.pyr_graphtext.proofs.NameLemmas.{AreDistinct-new, ids_below, ids_once}
use Rattle.pyr_graphtext.proofs.LawfulTasks.{IsFineTask, tasks_held}
use Rattle.pyr_graphtext.proofs.LawfulCounts.{IsFineDatum, datums_held, prints_held, HasSlots, counts_held, zip_length, zip_at}

-- no limit is passed where each of them isn't
none_passed : (s : System) → passes s Tasks ≡ false → passes s Datums ≡ false → passes s Length ≡ false → passes s Comm ≡ false → passes s Cost ≡ false
    → passes s Reads ≡ false → passes s AllReads ≡ false → passes s Writes ≡ false → passes s Prints ≡ false → first_passed s ≡ None
none_passed s a b c d e f g h i = rw (a, b, c, d, e, f, g, h, i)

-- no datum stands twice in a list where none does in each of them
none_repeated : (tasks : List TaskParts) (last : List (List ℕ)) → All (λ t. (first_repeated (datum_numbers t.reads) ≡ None) × (first_repeated (datum_numbers t.writes) ≡ None)) tasks
    → first_repeated_of last ≡ None → first_repeated_of (flat_map lists_of tasks ++ last) ≡ None
none_repeated [] last all none = none
none_repeated (t ∷ tasks) last all none =
    let (reads, writes) = All-head (λ (t : TaskParts). (first_repeated (datum_numbers t.reads) ≡ None) × (first_repeated (datum_numbers t.writes) ≡ None)) t tasks all in
    rw (reads, writes) (none_repeated tasks last (All-tail (λ (t : TaskParts). (first_repeated (datum_numbers t.reads) ≡ None) × (first_repeated (datum_numbers t.writes) ≡ None)) t tasks all) none)

within : (least most n : ℕ) → least ≤ n → n ≤ most → is_past least most n ≡ false
within least most n low high = or_from (nat_lt n least) (nat_lt most n) (le-ltb n least low) (le-ltb most n high)

-- a sum over two lists that agree place by place
zip_sum : {X Y : Type 0} (R : X → Y → Type 0) (f : X → ℕ) (g : Y → ℕ) → ((x : X) (y : Y) → R x y → f x ≡ g y) → (xs : List X) (ys : List Y) → AllZip R xs ys → sum_by f xs ≡ sum_by g ys
zip_sum R f g same [] [] all = refl
zip_sum R f g same [] (y ∷ ys) all = absurd all
zip_sum R f g same (x ∷ xs) [] all = absurd all
zip_sum R f g same (x ∷ xs) (y ∷ ys) all =
    let rest = zip_sum R f g same xs ys all.1 in
    omega (arith, sum_by-cons f x xs, sum_by-cons g y ys, same x y all.0, rest)

module _ (said : List Line) (pass : AllPass said) where
  -- the names differ, and the lists are as long as one another
  pub datum_names_differ : AreDistinct (datum_names said)
  datum_names_differ = AreDistinct-new (datum_names said) (datums_held said pass).new

  pub task_names_differ : AreDistinct (task_names said)
  task_names_differ = AreDistinct-new (task_names said) (counts_held said pass).new

  pub datums_named : length (datum_names said) ≡ length (datums said)
  datums_named = (datums_held said pass).named

  pub bodies-tasks : length (bodies said) ≡ length (tasks said)
  bodies-tasks = zip_length HasSlots (bodies said) (tasks said) (counts_held said pass).slots

  module _ (closed : stage_of said ≡ Outside) where
    outside : is_outside (stage_of said) ≡ true
    outside = ap is_outside closed

    pub tasks_named : length (task_names said) ≡ length (tasks said)
    tasks_named = (counts_held said pass).named_outside outside

    -- every datum that is named is one of the system
    pub holds_its_data : HoldsItsData (system_said said)
    holds_its_data =
        let same : length (datum_names said) ≡ length (datums said) = datums_named in
        let hold = tasks_held said pass in
        HoldsItsData-from_lists (tasks said) (datums said) (datum_ids (datum_names said) (prints said))
        (All-weaker (IsFineTask (datum_names said) (written said)) (λ t. All (λ d. d.0 < length (datums said)) t.reads × All (λ d. d.0 < length (datums said)) t.writes)
        (λ t fine. (rw same at fine.reads, rw same at fine.writes)) (tasks said) hold.closed)
        (rw same at (ids_below (datum_names said) (prints said) (prints_held said pass).known))

    -- no limit is passed
    pub no_limit_passed : first_passed (system_said said) ≡ None
    no_limit_passed =
        let counts = counts_held said pass in
        let datum = datums_held said pass in
        let hold = tasks_held said pass in
        let ids : length (datum_ids (datum_names said) (prints said)) ≡ length (prints said) = length-map (prints said) _ in
        none_passed (system_said said)
        (le-ltb TASKS (length (tasks said)) (omega (arith, tasks_named, counts.few)))
        (le-ltb DATUMS (length (datums said)) datum.few)
        (list_any_none (λ d. is_past LEAST_LENGTH LENGTH d.length) (datums said)
        (All-weaker IsFineDatum (λ d. is_past LEAST_LENGTH LENGTH d.length ≡ false) (λ d fine. within LEAST_LENGTH LENGTH d.length fine.least fine.most) (datums said) datum.fine))
        (list_any_none (λ d. nat_lt COMM d.comm) (datums said)
        (All-weaker IsFineDatum (λ d. nat_lt COMM d.comm ≡ false) (λ d fine. le-ltb COMM d.comm fine.light) (datums said) datum.fine))
        (list_any_none (λ t. is_past LEAST_COST COST t.cost) (tasks said)
        (All-weaker (IsFineTask (datum_names said) (written said)) (λ t. is_past LEAST_COST COST t.cost ≡ false) (λ t fine. within LEAST_COST COST t.cost fine.least fine.most) (tasks said) hold.closed))
        (list_any_none (λ t. nat_lt READS (length t.reads)) (tasks said)
        (All-weaker (IsFineTask (datum_names said) (written said)) (λ t. nat_lt READS (length t.reads) ≡ false) (λ t fine. le-ltb READS (length t.reads) fine.few_reads) (tasks said) hold.closed))
        (le-ltb ALL_READS (sum_by (λ t. length t.reads) (tasks said)) (omega (arith, counts.reads_outside outside, counts.few_reads)))
        (list_any_none (λ t. nat_lt WRITES (length t.writes)) (tasks said)
        (All-weaker (IsFineTask (datum_names said) (written said)) (λ t. nat_lt WRITES (length t.writes) ≡ false) (λ t fine. le-ltb WRITES (length t.writes) fine.few_writes) (tasks said) hold.closed))
        (le-ltb PRINTS (length (datum_ids (datum_names said) (prints said))) (omega (arith, ids, (prints_held said pass).few)))

    -- no datum stands twice in a list
    pub no_duplicate : first_duplicate (system_said said) ≡ None
    no_duplicate =
        let printed = prints_held said pass in
        none_repeated (tasks said) (datum_numbers (datum_ids (datum_names said) (prints said)) ∷ [])
        (All-weaker (IsFineTask (datum_names said) (written said)) (λ t. (first_repeated (datum_numbers t.reads) ≡ None) × (first_repeated (datum_numbers t.writes) ≡ None))
        (λ t fine. (fine.reads_once, fine.writes_once)) (tasks said) (tasks_held said pass).closed)
        (rw (ids_once (datum_names said) (prints said) printed.known printed.new))

    -- no two tasks write one datum
    pub none_written_twice : (d : ℕ) → IsWrittenTwice (system_said said) d → ⊥
    none_written_twice d (a, b, apart, is_a, is_b) =
        let none : TaskParts = record { cost = 0; reads = []; writes = [] } in
        let pairs = (tasks_held said pass).apart in
        let at_a = tested-Contains d (writes_of (system_said said) a) is_a.1 in
        let at_b = tested-Contains d (writes_of (system_said said) b) is_b.1 in
        elim (cases_order a b) [
          | inl same ↦ apart same
          | inr (inl less) ↦ pairs a b none less is_b.0 d at_a at_b
          | inr (inr more) ↦ pairs b a none more is_a.0 d at_b at_a
        ]

    -- so these faults of a graph can't be
    pub no_limit_fault : (which : Quantity) → IsFault (system_said said) (graph_faults.Limit which) → ⊥
    no_limit_fault which fault = let both : None ≡ Some which = sym no_limit_passed ∙ fault.1 in cc

    pub no_duplicate_fault : (datum : DatumId) → IsFault (system_said said) (graph_faults.Duplicate datum) → ⊥
    no_duplicate_fault datum fault = let both : None ≡ Some datum.0 = sym no_duplicate ∙ fault.1 in cc

    pub no_two_writers_fault : (datum : DatumId) → IsFault (system_said said) (graph_faults.TwoWriters datum) → ⊥
    no_two_writers_fault datum fault = none_written_twice datum.0 fault.1.has

    -- with the bodies that are written so they are a program
    pub is_program : (bs : List BodyParts) → AllZip IsBodyOf (bodies said) bs → IsProgram (program_of (system_said said) (datum_names said) (task_names said) bs)
    is_program bs all =
        let counts = counts_held said pass in
        let no_body : WrittenBody = record { reads = []; writes = []; lines = [] } in
        let nodes = zip_sum IsBodyOf (λ w. nodes_of w.lines) (λ b. statements_nodes b.statements) nodes_of-body (bodies said) bs all in
        let work = zip_sum IsBodyOf (λ w. work_of w.lines) (λ b. statements_work b.statements) work_of-body (bodies said) bs all in
        record {
          datum_names = datums_named;
          task_names = tasks_named;
          bodies = sym (zip_length IsBodyOf (bodies said) bs all) ∙ bodies-tasks;
          datums_differ = datum_names_differ;
          tasks_differ = task_names_differ;
          reads = λ t t_in.
              let is = zip_at IsBodyOf (bodies said) bs t no_body (record { statements = tree.End; locals = []; reads = 0; writes = 0 }) all (omega (arith, bodies-tasks)) in
              let slots = zip_at HasSlots (bodies said) (tasks said) t no_body (record { cost = 0; reads = []; writes = [] }) counts.slots (omega (arith, bodies-tasks)) in
              is.reads ∙ slots.reads ∙ sym (length-map (task_in (tasks said) t).reads _);
          writes = λ t t_in.
              let is = zip_at IsBodyOf (bodies said) bs t no_body (record { statements = tree.End; locals = []; reads = 0; writes = 0 }) all (omega (arith, bodies-tasks)) in
              let slots = zip_at HasSlots (bodies said) (tasks said) t no_body (record { cost = 0; reads = []; writes = [] }) counts.slots (omega (arith, bodies-tasks)) in
              is.writes ∙ slots.writes ∙ sym (length-map (task_in (tasks said) t).writes _);
          nodes = omega (arith, nodes, counts.nodes_outside outside, counts.few_nodes);
          work = omega (arith, work, counts.work_summed, counts.little_work);
        }

    -- the same of a graph that is the system of the lines
    pub is_program_of : (graph : System) (bs : List BodyParts) → graph ≡ system_said said → AllZip IsBodyOf (bodies said) bs → IsProgram (program_of graph (datum_names said) (task_names said) bs)
    is_program_of graph bs same all =
        subst (λ (g : System). IsProgram (program_of g (datum_names said) (task_names said) bs)) (sym same) (is_program bs all)
