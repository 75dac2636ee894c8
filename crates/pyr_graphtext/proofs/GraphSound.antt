-- The system of every graph is sound.
use Rattle.std.proofs.Common.{◌≡◌, ℕ, suc, ◌≤◌, false, List, [], ◌∷◌, ◌++◌, length, Option, Some, None, refl, sym, ◌∙◌, arith}
use Rattle.std.specs.Prelude.{◌≢◌, AllPairs, nat_lt, nat_eq, sum_by}
use Rattle.std.specs.List.{list_any, flat_map}
use Rattle.std.specs.Option.{option_or}
use Rattle.std.proofs.lemmas.Bool.{le-ltb}
use Rattle.std.proofs.lemmas.List.{length-map}
use Rattle.std.proofs.lemmas.List.Elements.{All-from_get_or, All-weaker}
use Rattle.std.proofs.lemmas.List.Folds.{list_any_none}
use Rattle.pyr_num.specs.declared.limits.Quantity.TheVariants.{Tasks, Datums, Length, Comm, Cost, Reads, AllReads, Writes, Prints}
use Rattle.pyr_num.specs.declared.limits.TheConstants.Limits.{TASKS, DATUMS, LEAST_LENGTH, LENGTH, COMM, LEAST_COST, COST, READS, ALL_READS, WRITES, PRINTS}
use Rattle.pyr_num.specs.declared.ids.DatumId.{DatumId}
use Rattle.pyr_graph.specs.declared.parts.TaskParts.{TaskParts}
use Rattle.pyr_graph.specs.declared.parts.DatumParts.{DatumParts}
use Rattle.pyr_graph.specs.System.{System, task_count, datum_count, datum_numbers, task_in, cost_of, comm_of, writer_of}
use Rattle.pyr_graph.specs.Bounds.{is_outside, passes, first_passed}
use Rattle.pyr_graph.specs.Faults.{first_repeated, first_repeated_of, lists_of, first_duplicate, IsSound}
use Rattle.pyr_graph.specs.WholeGraph.{IsGraph}
use Rattle.pyr_graph.proofs.ListLemmas.{nat_eq-apart}
use Rattle.pyr_graphtext.proofs.Pairs.{AllPairs-head, AllPairs-tail}

within_range : (least most n : ℕ) → least ≤ n → n ≤ most → is_outside least most n ≡ false
within_range least most n low high = rw (le-ltb n least low, le-ltb most n high) refl

not_repeated : (xs : List ℕ) → AllPairs (λ d e. d ≢ e) xs → first_repeated xs ≡ None
not_repeated [] once = refl
not_repeated (x ∷ xs) once =
    let none : list_any (nat_eq x) xs ≡ false = list_any_none (nat_eq x) xs (All-weaker (λ y. x ≢ y) (λ y. nat_eq x y ≡ false) (λ y other. nat_eq-apart x y other) xs (AllPairs-head (λ d e. d ≢ e) x xs once)) in
    rw none (not_repeated xs (AllPairs-tail (λ d e. d ≢ e) x xs once))

repeated-append : (xs ys : List (List ℕ)) → first_repeated_of xs ≡ None → first_repeated_of ys ≡ None → first_repeated_of (xs ++ ys) ≡ None
repeated-append [] ys p q = q
repeated-append (x ∷ xs) ys p q = by_first (first_repeated x) refl p (λ r. repeated-append xs ys r q) where
  by_first : (o : Option ℕ) → first_repeated x ≡ o → option_or (first_repeated x) (first_repeated_of xs) ≡ None → (first_repeated_of xs ≡ None → first_repeated_of (xs ++ ys) ≡ None)
      → option_or (first_repeated x) (first_repeated_of (xs ++ ys)) ≡ None
  by_first None e f rest = rw e (rest (rw e at f))
  by_first (Some d) e f rest = absurd (let s : Some d ≡ None = rw e at f in cc)

not_repeated_in_tasks : (tasks : List TaskParts) → ((t : ℕ) → AllPairs (λ d e. d ≢ e) (datum_numbers (task_in tasks t).reads)) → ((t : ℕ) → AllPairs (λ d e. d ≢ e) (datum_numbers (task_in tasks t).writes))
    → first_repeated_of (flat_map lists_of tasks) ≡ None
not_repeated_in_tasks [] reads writes = refl
not_repeated_in_tasks (t ∷ tasks) reads writes =
    let r : first_repeated (datum_numbers t.reads) ≡ None = not_repeated (datum_numbers t.reads) (reads 0) in
    let w : first_repeated (datum_numbers t.writes) ≡ None = not_repeated (datum_numbers t.writes) (writes 0) in
    rw (r, w) (not_repeated_in_tasks tasks (λ u. reads (suc u)) (λ u. writes (suc u)))

module _ (s : System) (g : IsGraph s) where
  passes_tasks : passes s Tasks ≡ false
  passes_tasks = le-ltb TASKS (task_count s) g.limits.tasks

  passes_datums : passes s Datums ≡ false
  passes_datums = le-ltb DATUMS (datum_count s) g.limits.datums

  passes_length : passes s Length ≡ false
  passes_length = list_any_none (λ (d : DatumParts). is_outside LEAST_LENGTH LENGTH d.length) s.datums
      (All-weaker (λ d. (LEAST_LENGTH ≤ d.length) × (d.length ≤ LENGTH)) (λ d. is_outside LEAST_LENGTH LENGTH d.length ≡ false) (λ d h. within_range LEAST_LENGTH LENGTH d.length h.0 h.1) s.datums g.limits.lengths)

  passes_comm : passes s Comm ≡ false
  passes_comm = list_any_none (λ (d : DatumParts). nat_lt COMM d.comm) s.datums
      (All-from_get_or (λ d. nat_lt COMM d.comm ≡ false) s.datums (record { length = 0; comm = 0 }) (λ i inside. le-ltb COMM (comm_of s i) (g.limits.comms i)))

  passes_cost : passes s Cost ≡ false
  passes_cost = list_any_none (λ (t : TaskParts). is_outside LEAST_COST COST t.cost) s.tasks
      (All-from_get_or (λ t. is_outside LEAST_COST COST t.cost ≡ false) s.tasks (record { cost = 0; reads = []; writes = [] })
      (λ i inside. within_range LEAST_COST COST (cost_of s i) (g.limits.least_costs i (record { cost = 0; reads = []; writes = [] }) inside) (g.limits.costs i)))

  passes_reads : passes s Reads ≡ false
  passes_reads = list_any_none (λ (t : TaskParts). nat_lt READS (length t.reads)) s.tasks
      (All-from_get_or (λ t. nat_lt READS (length t.reads) ≡ false) s.tasks (record { cost = 0; reads = []; writes = [] })
      (λ i inside. le-ltb READS (length (task_in s.tasks i).reads) (omega (arith, g.limits.reads i, length-map (task_in s.tasks i).reads (λ (d : DatumId). d.0)))))

  passes_all_reads : passes s AllReads ≡ false
  passes_all_reads = le-ltb ALL_READS (sum_by (λ (t : TaskParts). length t.reads) s.tasks) g.limits.all_reads

  passes_writes : passes s Writes ≡ false
  passes_writes = list_any_none (λ (t : TaskParts). nat_lt WRITES (length t.writes)) s.tasks
      (All-from_get_or (λ t. nat_lt WRITES (length t.writes) ≡ false) s.tasks (record { cost = 0; reads = []; writes = [] })
      (λ i inside. le-ltb WRITES (length (task_in s.tasks i).writes) (omega (arith, g.limits.writes i, length-map (task_in s.tasks i).writes (λ (d : DatumId). d.0)))))

  passes_prints : passes s Prints ≡ false
  passes_prints = le-ltb PRINTS (length s.prints) g.limits.prints

  none_passed : first_passed s ≡ None
  none_passed = rw (passes_tasks, passes_datums, passes_length, passes_comm, passes_cost, passes_reads, passes_all_reads, passes_writes, passes_prints) refl

  none_repeated : first_duplicate s ≡ None
  none_repeated =
      let p : first_repeated (datum_numbers s.prints) ≡ None = not_repeated (datum_numbers s.prints) g.prints_once in
      repeated-append (flat_map lists_of s.tasks) (datum_numbers s.prints ∷ []) (not_repeated_in_tasks s.tasks g.reads_once g.writes_once) (rw p refl)

  -- the system is sound
  pub graph_is_sound : IsSound s
  graph_is_sound = record {
    written = record {
      single = record {
        distinct = record { within = record { some_task = g.some_task; limits = none_passed }; once = none_repeated };
        one_writer = λ d twice. twice.2 (g.one_writer d twice.0 twice.3 ∙ sym (g.one_writer d twice.1 twice.4));
      };
      some_writer = λ d unwritten. unwritten.1 (writer_of s d) (g.some_writer d unwritten.0);
    };
    acyclic = g.acyclic;
  }
