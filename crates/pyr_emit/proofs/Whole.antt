-- The bundle of a plan is lawful and within the limits.
use Rattle.std.proofs.Common.{◌≡◌, ◌≢◌, ℕ, ◌+◌, ◌-◌, ◌<◌, ◌≤◌, ◌==◌, true, not, List, [], length, get_or, All, refl, sym, ap, ◌∙◌, subst, arith}
use Rattle.std.specs.Prelude.{Option, nat_eq, nat_lt, AllPairs, sum_by, count_by, slice_get}
use Rattle.std.specs.List.{list_any, range_with_len}
use Rattle.std.proofs.lemmas.Bool.{cond_both, eq-eqb, ne_eqb, lt-ltb, ltb-true, ltb-false, and_from, not_from_false}
use Rattle.std.proofs.lemmas.List.{length-map}
use Rattle.std.proofs.lemmas.List.Elements.{All-map, All-from_get_or}
use Rattle.std.proofs.lemmas.List.FromFn.{fill_by_all, length-map-range_with_len, get_or-map-range_with_len}
use Rattle.std.proofs.lemmas.Option.{slice_get-get_or}
use Rattle.pyr_num.specs.declared.limits.TheConstants.Limits.{LEAST_PROCESSORS, PROCESSORS, LEAST_LENGTH, LENGTH}
use Rattle.pyr_num.specs.declared.ids.DatumId.{DatumId}
use Rattle.pyr_num.specs.declared.name.Name.{Name}
use Rattle.pyr_code.specs.declared.code_fault.CodeFault.{CodeFault}
use Rattle.pyr_code.specs.Size.{code_nodes, code_work}
use Rattle.pyr_code.proofs.FirstFault.{none-first_fault}
use Rattle.pyr_body.specs.Parts.{BodyParts}
use Rattle.pyr_body.specs.Tree.{End}
use Rattle.pyr_body.specs.Size.{statements_nodes, statements_work}
use Rattle.pyr_bodygen.proofs.SizeLemmas.{same_nodes, same_work}
use Rattle.pyr_seq.specs.Walk.{IsTopological}
use Rattle.pyr_graph.specs.declared.placement.Placement.{Placement}
use Rattle.pyr_graph.specs.declared.plan.Plan.{Plan}
use Rattle.pyr_graph.specs.declared.parts.TaskParts.{TaskParts}
use Rattle.pyr_graph.specs.System.{System, task_count, datum_count, task_numbers, datum_numbers, task_at, reads_of, writes_of, writer_of, IsEdge}
use Rattle.pyr_graph.specs.WholeGraph.{IsGraph}
use Rattle.pyr_graph.proofs.ListLemmas.{Contains-tested, tested-Contains}
use Rattle.pyr_graphtext.specs.Program.{ProgramParts, IsProgram, datum_name, body_at}
use Rattle.pyr_rcp.specs.Order.{IsPlaced}
use Rattle.pyr_bundle.specs.declared.raw_bundle.RawBundle.{RawBundle}
use Rattle.pyr_bundle.specs.declared.raw_datum.RawDatum.{RawDatum}
use Rattle.pyr_bundle.specs.declared.raw_task.RawTask.{RawTask}
use Rattle.pyr_bundle.specs.declared.raw_instr.RawInstr.{RawInstr}
use Rattle.pyr_bundle.specs.declared.raw_instr.RawInstr.TheVariants.{Recv, Exec, Send}
use Rattle.pyr_bundle.specs.Law.{IsKept}
use Rattle.pyr_bundle.specs.Raw.{task_in, code_in, shape_of, tree_of, IsTaskWithinLimits, IsWithinLimits}
use Rattle.pyr_bundle.specs.Laws.{names, names_of, is_new_name, accesses, is_new, is_new_access, writers, is_written_by, codes as code_law, is_fault_at, prints, operands, fits, fits_at, executions, is_exec, is_send_to, is_fine_capacity, sends as send_law, is_send, receives as receive_law, is_receive, channels, pairs_of, is_line_of, capacities, send_count}
use Rattle.pyr_bundle.specs.declared.bundle_fault.BundleFault.{BundleFault}
use Rattle.pyr_bundle.specs.declared.bundle_fault.BundleFault.TheVariants.{Law as LawFault, Memory}
use Rattle.pyr_bundle.specs.Faults.{IsLawful, IsCause}
use Rattle.pyr_bundle.proofs.OneFault.{one_fault}
use Rattle.pyr_emit.specs.Emission.{IsEmission, IsTaskOf, datum_of, code_on, writes_it}
use Rattle.pyr_emit.specs.Checked.{IsChecked}
use Rattle.pyr_emit.proofs.Ranges.{map_map}
use Rattle.pyr_emit.proofs.SumLemmas.{total, one, one-low, one-true, total_same, total_once, term_low, sum_places}
use Rattle.pyr_emit.proofs.CountLemmas.{execs_once, sends_once, receives_once}
use Rattle.pyr_emit.proofs.SizeLemmas.{instructions_low, channels_low}
use Rattle.pyr_emit.proofs.FineLemmas.{IsFine, code_fine, own_sends}
use Rattle.pyr_emit.proofs.LawLemmas.{new_number, fresh_list, new_name, new_sends, new_receives, line_at, capacity_at}

module _ (p : ProgramParts) (placement : Placement) (plan : Plan) (raw : RawBundle) (is : IsEmission p placement plan raw)
    (program : IsProgram p) (graph : IsGraph p.graph) (placed : IsPlaced p.graph placement) (top : IsTopological (task_count p.graph) (IsEdge p.graph) (task_numbers plan.order))
    (some : LEAST_PROCESSORS ≤ placement.processors) (few : placement.processors ≤ PROCESSORS) (checked : All IsChecked raw.tasks) where
  abbrev s : System
  s = p.graph

  abbrev order : List ℕ
  order = task_numbers plan.order

  datum_total : length raw.datums ≡ datum_count s
  datum_total = ap length is.datums ∙ length-map-range_with_len (datum_of p) 0 (datum_count s)

  processor_total : length raw.code ≡ placement.processors
  processor_total = ap length is.code ∙ length-map-range_with_len (code_on s placement order) 0 placement.processors

  -- 1. the names
  same_names : names_of raw.datums ≡ p.datum_names
  same_names =
      ap names_of is.datums ∙ map_map (λ (d : RawDatum). d.name) (datum_of p) (range_with_len 0 (datum_count s))
      ∙ sym (fill_by_all (datum_name p) p.datum_names (datum_count s) [] program.datum_names (λ k inside. refl))

  names_kept : IsKept (names raw)
  unfolding names
  names_kept = record {
    kept = λ d b row column.
        ap (λ (list : List Name). is_new_name list d) same_names ∙ new_name p.datum_names program.datums_differ d (omega (arith, row, datum_total, program.datum_names));
  }

  -- 2. what tasks read and write
  below_all : (t : ℕ) (list : List DatumId) → All (λ d. d.0 < datum_count s) list → All (λ d. d < length raw.datums) (datum_numbers list)
  below_all t list below =
      subst (λ n. All (λ d. d < n) (datum_numbers list)) (sym datum_total) (All-map (λ d. d < datum_count s) (λ (d : DatumId). d.0) list below)

  access_new : (t : ℕ) → t < length raw.tasks → (i : ℕ) → i < length (task_in raw.tasks t).reads + length (task_in raw.tasks t).writes → is_new_access (length raw.datums) (task_in raw.tasks t) i ≡ true
  access_new t inside i column =
      let task = is.tasks t (omega (arith, inside, is.count)) in
      cond_both (nat_lt i (length (task_in raw.tasks t).reads)) (is_new (length raw.datums) (task_in raw.tasks t).reads i) (is_new (length raw.datums) (task_in raw.tasks t).writes (i - length (task_in raw.tasks t).reads)) (λ b. b ≡ true)
      (λ less. read_new task (ltb-true i (length (task_in raw.tasks t).reads) less)) (λ past. written_new task (i - length (task_in raw.tasks t).reads) (let l = ltb-false i (length (task_in raw.tasks t).reads) past in omega (arith, column, l)))
    where
      read_new : IsTaskOf p t (task_in raw.tasks t) → i < length (task_in raw.tasks t).reads → is_new (length raw.datums) (task_in raw.tasks t).reads i ≡ true
      read_new task l =
          ap (λ (xs : List ℕ). is_new (length raw.datums) xs i) task.reads
          ∙ new_number (length raw.datums) (reads_of s t) (below_all t (task_at s t).reads (graph.holds.reads t)) (graph.reads_once t) i (subst (λ (xs : List ℕ). i < length xs) task.reads l)

      written_new : IsTaskOf p t (task_in raw.tasks t) → (k : ℕ) → k < length (task_in raw.tasks t).writes → is_new (length raw.datums) (task_in raw.tasks t).writes k ≡ true
      written_new task k l =
          ap (λ (xs : List ℕ). is_new (length raw.datums) xs k) task.writes
          ∙ new_number (length raw.datums) (writes_of s t) (below_all t (task_at s t).writes (graph.holds.writes t)) (graph.writes_once t) k (subst (λ (xs : List ℕ). k < length xs) task.writes l)

  accesses_kept : IsKept (accesses raw)
  unfolding accesses
  accesses_kept = record { kept = λ t i row column. access_new t row i column }

  -- 3. the writers
  writer_count : (d : ℕ) → d < datum_count s → count_by (is_written_by d) raw.tasks ≡ 1
  writer_count d inside =
      sum_places (λ task. one (is_written_by d task)) (record { locals = 0; reads = []; writes = []; code = [] }) raw.tasks
      ∙ ap (λ n. total n (λ t. one (is_written_by d (task_in raw.tasks t)))) is.count
      ∙ total_same (task_count s) (λ t. one (is_written_by d (task_in raw.tasks t))) (λ t. one (writes_it s t d)) (λ t t_in. ap (λ (xs : List ℕ). one (list_any (nat_eq d) xs)) (is.tasks t t_in).writes)
      ∙ between most least
    where
      between : {n : ℕ} → n ≤ 1 → 1 ≤ n → n ≡ 1
      between a b = omega (arith, a, b)

      most : total (task_count s) (λ t. one (writes_it s t d)) ≤ 1
      most = total_once (task_count s) 1 (λ t. one (writes_it s t d)) (λ t t_in. one-low (writes_it s t d))
          (λ i j l m a b. graph.one_writer d i (l, Contains-tested d (writes_of s i) (one-true (writes_it s i d) a)) ∙ sym (graph.one_writer d j (m, Contains-tested d (writes_of s j) (one-true (writes_it s j d) b))))

      least : 1 ≤ total (task_count s) (λ t. one (writes_it s t d))
      least =
          let (w_in, held) = graph.some_writer d inside in
          let here = ap one (tested-Contains d (writes_of s (writer_of s d)) held) in
          let low = term_low (task_count s) (writer_of s d) (λ t. one (writes_it s t d)) w_in in
          omega (arith, here, low)

  writers_kept : IsKept (writers raw)
  unfolding writers
  writers_kept = record {
    kept = λ d b row column. eq-eqb (count_by (is_written_by d) raw.tasks) 1 (writer_count d (omega (arith, row, datum_total)));
  }

  -- 4. the code of the tasks
  codes_kept : IsKept (code_law raw)
  unfolding code_law
  codes_kept = record {
    kept = λ t i row column.
        ap (λ (fault : Option CodeFault). not (is_fault_at i fault))
        (none-first_fault (shape_of (task_in raw.tasks t)) (tree_of (task_in raw.tasks t)) (checked t (record { locals = 0; reads = []; writes = []; code = [] }) row).well_formed);
  }

  -- 5. the printed data
  prints_kept : IsKept (prints raw)
  unfolding prints
  prints_kept = fresh_list (length raw.datums) raw.prints
      (subst (All (λ d. d < length raw.datums)) (sym is.prints) (below_all 0 s.prints graph.holds.prints)) (subst (AllPairs (λ d e. d ≢ e)) (sym is.prints) graph.prints_once)

  -- 6. what instructions name
  code_is : (q : ℕ) → q < length raw.code → code_in raw.code q ≡ code_on s placement order q
  code_is q inside =
      ap (λ (list : List (List RawInstr)). code_in list q) is.code ∙ get_or-map-range_with_len (code_on s placement order) 0 placement.processors q q [] (omega (arith, inside, processor_total)) (omega arith)

  fine_fits : (q : ℕ) (instr : RawInstr) → IsFine placement.processors (task_count s) (datum_count s) q instr → fits raw q instr ≡ true
  fine_fits q (Recv from d) fine =
      and_from _ _ (and_from _ _ (lt-ltb from (length raw.code) (omega (arith, fine.0, processor_total))) (not_from_false (from == q) (ne_eqb from q fine.1))) (lt-ltb d (length raw.datums) (omega (arith, fine.2, datum_total)))
  fine_fits q (Exec t) fine = lt-ltb t (length raw.tasks) (omega (arith, fine, is.count))
  fine_fits q (Send to d) fine =
      and_from _ _ (and_from _ _ (lt-ltb to (length raw.code) (omega (arith, fine.0, processor_total))) (not_from_false (to == q) (ne_eqb to q fine.1))) (lt-ltb d (length raw.datums) (omega (arith, fine.2, datum_total)))

  operands_kept : IsKept (operands raw)
  unfolding operands
  operands_kept = record {
    kept = λ q i row column.
        let instr = get_or (code_in raw.code q) i (Exec 0) in
        ap (fits_at raw q i) (slice_get-get_or (code_in raw.code q) i (Exec 0) column)
        ∙ fine_fits q instr (subst (λ (list : List RawInstr). All (IsFine placement.processors (task_count s) (datum_count s) q) list) (sym (code_is q row)) (code_fine s placement order graph placed top q) i (Exec 0) column);
  }

  -- 7. each task is executed once
  executions_kept : IsKept (executions raw)
  unfolding executions
  executions_kept = record {
    kept = λ t b row column.
        eq-eqb (sum_by (count_by (is_exec t)) raw.code) 1
        (ap (sum_by (count_by (is_exec t))) is.code ∙ execs_once s placement order graph placed top t (omega (arith, row, is.count)));
  }

  -- 8. and 9. sends and receives
  sends_kept : IsKept (send_law raw)
  unfolding send_law
  sends_kept = new_sends raw.code (λ q d. subst (λ (list : List (List RawInstr)). sum_by (count_by (is_send q d)) list ≤ 1) (sym is.code) (sends_once s placement order graph placed top q d))

  receives_kept : IsKept (receive_law raw)
  unfolding receive_law
  receives_kept = new_receives raw.code (λ q d row. subst (λ (list : List RawInstr). count_by (is_receive d) list ≤ 1) (sym (code_is q row)) (receives_once s placement order graph placed top q d))

  -- 10. and 11. channels
  channels_kept : IsKept (channels raw)
  unfolding channels
  channels_kept = record {
    kept = λ i b row column. ap (λ (list : List _). is_line_of (slice_get list i) (slice_get (pairs_of raw.code) i)) is.channels ∙ line_at raw.code i;
  }

  capacities_kept : IsKept (capacities raw)
  unfolding capacities
  capacities_kept = record {
    kept = λ i b row column. ap (λ (list : List _). is_fine_capacity raw.code (slice_get list i)) is.channels ∙ capacity_at raw.code i;
  }

  pub lawful : IsLawful raw
  lawful = record {
    names = names_kept;
    accesses = accesses_kept;
    writers = writers_kept;
    codes = codes_kept;
    prints = prints_kept;
    operands = operands_kept;
    executions = executions_kept;
    sends = sends_kept;
    receives = receives_kept;
    channels = channels_kept;
    capacities = capacities_kept;
  }

  -- sums over the tasks are sums over the program
  sum_tasks : (f : RawTask → ℕ) (g : ℕ → ℕ) → ((t : ℕ) → t < task_count s → f (task_in raw.tasks t) ≡ g t) → sum_by f raw.tasks ≡ total (task_count s) g
  sum_tasks f g same =
      sum_places f (record { locals = 0; reads = []; writes = []; code = [] }) raw.tasks ∙ ap (λ n. total n (λ t. f (task_in raw.tasks t))) is.count ∙ total_same (task_count s) (λ t. f (task_in raw.tasks t)) g same

  all_reads : sum_by (λ t. length t.reads) raw.tasks ≡ sum_by (λ t. length t.reads) s.tasks
  all_reads =
      sum_tasks (λ (t : RawTask). length t.reads) (λ t. length (task_at s t).reads) (λ t inside. ap length (is.tasks t inside).reads ∙ length-map (task_at s t).reads (λ (d : DatumId). d.0))
      ∙ sym (sum_places (λ (t : TaskParts). length t.reads) (record { cost = 0; reads = []; writes = [] }) s.tasks)

  abbrev no_body : BodyParts
  no_body = record { statements = End; locals = []; reads = 0; writes = 0 }

  all_nodes : sum_by (λ t. code_nodes (tree_of t)) raw.tasks ≡ sum_by (λ b. statements_nodes b.statements) p.bodies
  all_nodes =
      sum_tasks (λ (t : RawTask). code_nodes (tree_of t)) (λ t. statements_nodes (body_at p t).statements) (λ t inside. ap code_nodes (is.tasks t inside).code ∙ same_nodes (body_at p t).statements)
      ∙ sym (sum_places (λ (b : BodyParts). statements_nodes b.statements) no_body p.bodies ∙ ap (λ n. total n (λ t. statements_nodes (body_at p t).statements)) program.bodies)

  all_work : sum_by (λ t. code_work (tree_of t)) raw.tasks ≡ sum_by (λ b. statements_work b.statements) p.bodies
  all_work =
      sum_tasks (λ (t : RawTask). code_work (tree_of t)) (λ t. statements_work (body_at p t).statements) (λ t inside. ap code_work (is.tasks t inside).code ∙ same_work (body_at p t).statements)
      ∙ sym (sum_places (λ (b : BodyParts). statements_work b.statements) no_body p.bodies ∙ ap (λ n. total n (λ t. statements_work (body_at p t).statements)) program.bodies)

  task_limits : (t : ℕ) → t < length raw.tasks → IsTaskWithinLimits (task_in raw.tasks t)
  task_limits t inside =
      let task = is.tasks t (omega (arith, inside, is.count)) in
      record {
        reads = let n = ap length task.reads in let most = graph.limits.reads t in omega (arith, n, most);
        writes = let n = ap length task.writes in let most = graph.limits.writes t in omega (arith, n, most);
        code = (checked t (record { locals = 0; reads = []; writes = []; code = [] }) inside).limits;
      }

  datum_limits : All (λ d. (LEAST_LENGTH ≤ d.length) × (d.length ≤ LENGTH)) raw.datums
  datum_limits =
      subst (λ (list : List RawDatum). All (λ d. (LEAST_LENGTH ≤ d.length) × (d.length ≤ LENGTH)) list) (sym is.datums)
      (λ k d inside.
      let k_in : k < datum_count s = let n = length-map-range_with_len (datum_of p) 0 (datum_count s) in omega (arith, inside, n) in
      subst (λ (x : RawDatum). (LEAST_LENGTH ≤ x.length) × (x.length ≤ LENGTH)) (sym (get_or-map-range_with_len (datum_of p) 0 (datum_count s) k k d k_in (omega arith)))
      (graph.limits.lengths k (record { length = 0; comm = 0 }) k_in))

  pub limits : IsWithinLimits raw
  limits = record {
    least_processors = omega (arith, some, processor_total);
    processors = omega (arith, few, processor_total);
    tasks = omega (arith, is.count, graph.limits.tasks);
    datums = omega (arith, datum_total, graph.limits.datums);
    lengths = datum_limits;
    each_task = All-from_get_or IsTaskWithinLimits raw.tasks (record { locals = 0; reads = []; writes = []; code = [] }) task_limits;
    all_reads = let e = all_reads in let most = graph.limits.all_reads in omega (arith, e, most);
    all_nodes = let e = all_nodes in let most = program.nodes in omega (arith, e, most);
    all_work = let e = all_work in let most = program.work in omega (arith, e, most);
    prints = let e = ap length is.prints ∙ length-map s.prints (λ (d : DatumId). d.0) in let most = graph.limits.prints in omega (arith, e, most);
    channels = let e = ap length is.channels in let most = channels_low raw.code (omega (arith, few, processor_total)) own in omega (arith, e, most);
    instructions = let e = ap (sum_by length) is.code in let most = instructions_low s placement order graph placed top in omega (arith, e, most);
  }
    where
      own : (q : ℕ) → q < length raw.code → send_count raw.code q q ≡ 0
      own q inside = ap (λ (list : List RawInstr). count_by (is_send_to q) list) (code_is q inside) ∙ own_sends s placement order graph placed top q

-- where every law is kept, memory alone is told
pub only_memory : (raw : RawBundle) → IsLawful raw → (fault : BundleFault) → IsCause raw fault → fault ≡ Memory
only_memory raw kept (LawFault number a b) cause = absurd (one_fault.none raw number a b kept cause)
only_memory raw kept Memory cause = refl
