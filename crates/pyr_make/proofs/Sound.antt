-- Nothing is wrong with the parts of the generated graph, and with its names and bodies they are a program.
use Rattle.std.proofs.Common.{◌≡◌, ◌≢◌, ℕ, ◌+◌, ◌-◌, ◌*◌, ◌%◌, ◌<◌, ◌≤◌, false, List, [], ◌∷◌, ◌++◌, length, arith, refl, ap, sym, ◌∙◌, None, le-ltb}
use Rattle.std.specs.Prelude.{nat_lt, All, sum_by}
use Rattle.std.specs.List.{flat_map}
use Rattle.std.proofs.lemmas.Bool.{or_from, cond_both}
use Rattle.std.proofs.lemmas.List.{length-map}
use Rattle.std.proofs.lemmas.List.Elements.{All-head, All-tail}
use Rattle.std.proofs.lemmas.List.Folds.{list_any_none}
use Rattle.pyr_num.specs.declared.arithmetic.Bin.TheVariants.{Add, Mul}
use Rattle.pyr_num.specs.declared.limits.Quantity.TheVariants.{Tasks, Datums, Length, Comm, Cost, Reads, AllReads, Writes, Prints}
use Rattle.pyr_num.specs.declared.limits.TheConstants.Limits.{TASKS, DATUMS, LEAST_LENGTH, LENGTH, COMM, LEAST_COST, COST, READS, ALL_READS, WRITES, PRINTS}
use Rattle.pyr_body.specs.Tree.{Num, Frame, Bin, End}
use Rattle.pyr_body.specs.Parts.{BodyParts}
use Rattle.pyr_body.specs.Size.{expr_nodes, statements_nodes, statements_work}
use Rattle.pyr_graph.specs.declared.fault.GraphFault.{GraphFault}
use Rattle.pyr_graph.specs.declared.fault.GraphFault.TheVariants.{Memory}
use Rattle.pyr_graph.specs.declared.parts.TaskParts.{TaskParts}
use Rattle.pyr_graph.specs.System.{System, datum_numbers}
use Rattle.pyr_graph.specs.Bounds.{is_outside, passes, first_passed}
use Rattle.pyr_graph.specs.Faults.{first_repeated, first_repeated_of, lists_of, first_duplicate, IsSound, IsFault}
use Rattle.pyr_graph.proofs.OneFault.{none_where_sound}
use Rattle.pyr_graphtext.specs.Program.{IsProgram}
use Rattle.pyr_make.specs.Layered.{layered_task, layered_datum, layered_reads, layered_value, layered_body, layered_prints, layered_system, layered_program, layered_datum_name, layered_task_name, as_datums, word_read, first_predecessor, second_predecessor}
use Rattle.pyr_make.proofs.RuleLemmas.{reads_are, numbers-as_datums}
use Rattle.pyr_make.proofs.MadeLists.{made_length, made_at, made_all, made_pairs, made_sum}
use Rattle.pyr_make.proofs.NameLemmas.{datum_names_apart, task_names_apart}
use Rattle.pyr_make.proofs.PrintLemmas.{last_layer_from, prints-range, prints_few, range_once}
use Rattle.pyr_make.proofs.SystemLemmas.{tasks_counted, datums_counted, task_is, acyclic, none_written_twice, none_unwritten}

-- no limit is passed where each of them isn't
none_passed : (s : System) → passes s Tasks ≡ false → passes s Datums ≡ false → passes s Length ≡ false → passes s Comm ≡ false → passes s Cost ≡ false
    → passes s Reads ≡ false → passes s AllReads ≡ false → passes s Writes ≡ false → passes s Prints ≡ false → first_passed s ≡ None
none_passed s a b c d e f g h i = rw (a, b, c, d, e, f, g, h, i)

within : (least most n : ℕ) → least ≤ n → n ≤ most → is_outside least most n ≡ false
within least most n low high = or_from (nat_lt n least) (nat_lt most n) (le-ltb n least low) (le-ltb most n high)

-- a task whose lists have no datum twice
abbrev IsOnce : TaskParts → Type 0
IsOnce t = (first_repeated (datum_numbers t.reads) ≡ None) × (first_repeated (datum_numbers t.writes) ≡ None)

none_repeated : (tasks : List TaskParts) (last : List (List ℕ)) → All IsOnce tasks → first_repeated_of last ≡ None → first_repeated_of (flat_map lists_of tasks ++ last) ≡ None
none_repeated [] last all none = none
none_repeated (t ∷ tasks) last all none =
    let (reads, writes) = All-head IsOnce t tasks all in
    rw (reads, writes) (none_repeated tasks last (All-tail IsOnce t tasks all) none)

module _ (n : ℕ) (some : 0 < n) (few : n ≤ TASKS) where
  reads_few : (t : ℕ) → length (layered_task t).reads ≤ 2
  reads_few t = rw (length-map (layered_reads t) _) (reads_are t).few

  pub no_limit_passed : first_passed (layered_system n) ≡ None
  no_limit_passed =
      none_passed (layered_system n)
      (le-ltb TASKS (length (layered_system n).tasks) (omega (arith, tasks_counted n)))
      (le-ltb DATUMS (length (layered_system n).datums) (omega (arith, datums_counted n)))
      (list_any_none (λ d. is_outside LEAST_LENGTH LENGTH d.length) (layered_system n).datums (made_all layered_datum n (λ d. is_outside LEAST_LENGTH LENGTH d.length ≡ false) (λ d inside. refl)))
      (list_any_none (λ d. nat_lt COMM d.comm) (layered_system n).datums (made_all layered_datum n (λ d. nat_lt COMM d.comm ≡ false) (λ d inside. le-ltb COMM ((53 * d) % 61) (omega arith))))
      (list_any_none (λ t. is_outside LEAST_COST COST t.cost) (layered_system n).tasks
      (made_all layered_task n (λ t. is_outside LEAST_COST COST t.cost ≡ false) (λ t inside. within LEAST_COST COST (1 + (37 * t) % 97) (omega arith) (omega arith))))
      (list_any_none (λ t. nat_lt READS (length t.reads)) (layered_system n).tasks
      (made_all layered_task n (λ t. nat_lt READS (length t.reads) ≡ false) (λ t inside. le-ltb READS (length (layered_task t).reads) (omega (arith, reads_few t)))))
      (le-ltb ALL_READS (sum_by (λ t. length t.reads) (layered_system n).tasks)
      (omega (arith, made_sum layered_task n (λ t. length t.reads) 2 (λ t inside. reads_few t))))
      (list_any_none (λ t. nat_lt WRITES (length t.writes)) (layered_system n).tasks (made_all layered_task n (λ t. nat_lt WRITES (length t.writes) ≡ false) (λ t inside. refl)))
      (le-ltb PRINTS (length (layered_system n).prints) (omega (arith, prints_few n some)))

  pub no_duplicate : first_duplicate (layered_system n) ≡ None
  no_duplicate =
      let printed : first_repeated (datum_numbers (as_datums (layered_prints n))) ≡ None =
      rw (numbers-as_datums (layered_prints n), prints-range n some) (range_once (last_layer_from n) (n - last_layer_from n)) in
      none_repeated (layered_system n).tasks (datum_numbers (as_datums (layered_prints n)) ∷ [])
      (made_all layered_task n IsOnce (λ t inside. (rw (numbers-as_datums (layered_reads t)) (reads_are t).once, refl)))
      (rw printed refl)

  -- so the parts are sound
  pub is_sound : IsSound (layered_system n)
  is_sound = record {
    written = record {
      single = record {
        distinct = record {
          within = record { some_task = omega (arith, tasks_counted n); limits = no_limit_passed };
          once = no_duplicate;
        };
        one_writer = none_written_twice n;
      };
      some_writer = none_unwritten n;
    };
    acyclic = acyclic n;
  }

  pub no_fault : (fault : GraphFault) → fault ≢ Memory → IsFault (layered_system n) fault → ⊥
  no_fault fault other is = none_where_sound (layered_system n) is_sound fault other is

  -- so want of memory alone is told
  pub only_memory : (fault : GraphFault) → IsFault (layered_system n) fault → fault ≡ Memory
  only_memory Memory is = refl
  only_memory fault is = absurd (no_fault fault (λ e. (cc)) is)

  -- a body has few nodes, and does as many operations
  value_nodes : (t : ℕ) → expr_nodes (layered_value t) ≤ 9
  value_nodes t =
      cond_both (nat_lt t 64) (Bin Add Frame (Num t)) (Bin Add (Bin Mul (word_read t (first_predecessor t)) (Num 3)) (Bin Add (word_read t (second_predecessor t)) (Num t)))
      (λ e. expr_nodes e ≤ 9) (λ early. omega arith) (λ behind. omega arith)

  pub is_program : IsProgram (layered_program n)
  unfolding layered_program
  is_program = record {
    datum_names = made_length layered_datum_name n ∙ sym (datums_counted n);
    task_names = made_length layered_task_name n ∙ sym (tasks_counted n);
    bodies = made_length layered_body n ∙ sym (tasks_counted n);
    datums_differ = made_pairs layered_datum_name n (λ a b. a ≢ b) (λ i j less inside. datum_names_apart i j less (omega arith));
    tasks_differ = made_pairs layered_task_name n (λ a b. a ≢ b) (λ i j less inside. task_names_apart i j less (omega arith));
    reads = λ t t_in.
        let inside : t < n = omega (arith, tasks_counted n) in
        ap (λ (b : BodyParts). b.reads) (made_at layered_body n t (record { statements = End; locals = []; reads = 0; writes = 0 }) inside)
        ∙ sym (ap (λ (task : TaskParts). length (datum_numbers task.reads)) (task_is n t inside) ∙ ap (λ (xs : List ℕ). length xs) (numbers-as_datums (layered_reads t)));
    writes = λ t t_in.
        let inside : t < n = omega (arith, tasks_counted n) in
        ap (λ (b : BodyParts). b.writes) (made_at layered_body n t (record { statements = End; locals = []; reads = 0; writes = 0 }) inside)
        ∙ sym (ap (λ (task : TaskParts). length (datum_numbers task.writes)) (task_is n t inside));
    nodes = omega (arith, made_sum layered_body n (λ b. statements_nodes b.statements) 11 (λ t inside. omega (arith, value_nodes t)));
    work = omega (arith, made_sum layered_body n (λ b. statements_work b.statements) 11 (λ t inside. omega (arith, value_nodes t)));
  }
