-- The canonical text of a program stands for it.
use Rattle.std.proofs.Common.{◌≡◌, ℕ, ◌<◌, List, [], ◌++◌, refl, sym, ap, subst, ◌∙◌, arith}
use Rattle.std.specs.Prelude.{IsTrue}
use Rattle.std.specs.List.{AllZip}
use Rattle.std.proofs.lemmas.List.{take_all}
use Rattle.pyr_num.specs.declared.name.Name.{Name}
use Rattle.pyr_body.specs.RoundTrip.{IsReadAgain}
use Rattle.pyr_graph.specs.System.{task_count, datum_count}
use Rattle.pyr_graph.specs.Faults.{IsSound}
use Rattle.pyr_graph.specs.WholeGraph.{IsGraph}
use Rattle.pyr_graphtext.specs.Line.{Line}
use Rattle.pyr_graphtext.specs.Statements.{IsBodyOf}
use Rattle.pyr_graphtext.specs.Earlier.{stage_of, datum_names, datums, datum_ids, tasks, bodies, prints}
use Rattle.pyr_graphtext.specs.Faults.{is_outside}
use Rattle.pyr_graphtext.specs.Program.{ProgramParts, IsProgram, body_at}
use Rattle.pyr_graphtext.specs.Said.{IsSaid}
use Rattle.pyr_graphtext.specs.Answer.{StandsFor}
use Rattle.pyr_graphtext.specs.Canonical.{names_of, read_names, written_names, data_lines, all_task_lines, print_lines, program_lines, program_text, AreLineTokens}
use Rattle.pyr_graphtext.proofs.NumberedNames.{ids_again}
use Rattle.pyr_graphtext.proofs.GraphSound.{graph_is_sound}
use Rattle.pyr_graphtext.proofs.LinesRead.{after, after-append, Pass, Pass-append, read_fine}
use Rattle.pyr_graphtext.proofs.PrintingLemmas.{tokens-append}
use Rattle.pyr_graphtext.proofs.ReadSoFar.{IsReadTo, nothing_read, have_names}
use Rattle.pyr_graphtext.proofs.DataRead.{data_read, prints_read}
use Rattle.pyr_graphtext.proofs.TasksRead.{tasks_read}

module _ (p : ProgramParts) (g : IsGraph p.graph) (is : IsProgram p) where
  -- all lines of a program say it
  all_read : AreLineTokens (all_task_lines p) → ((t : ℕ) → t < task_count p.graph → IsReadAgain (body_at p t) (read_names p t) (written_names p t))
      → Pass [] (program_lines p) × IsReadTo p (datum_count p.graph) (task_count p.graph) (names_of p p.graph.prints) (after [] (program_lines p))
  all_read are again =
      let s1 : List Line = after [] (data_lines p) in
      let s2 : List Line = after s1 (all_task_lines p) in
      let a = data_read p g is (datum_count p.graph) 0 [] (omega arith) (nothing_read p) in
      let b = tasks_read p g is (task_count p.graph) 0 s1 (omega arith) a.1 are again in
      let c = prints_read p g is p.graph.prints [] s2 refl b.1 in
      let at_end : after [] (program_lines p) ≡ after s2 (print_lines p) =
      after-append [] (data_lines p) (all_task_lines p ++ print_lines p) ∙ after-append s1 (all_task_lines p) (print_lines p) in (
        Pass-append [] (data_lines p) (all_task_lines p ++ print_lines p) a.0 (Pass-append s1 (all_task_lines p) (print_lines p) b.0 c.0),
        subst (IsReadTo p (datum_count p.graph) (task_count p.graph) (names_of p p.graph.prints)) (sym at_end) c.1,
      )

  -- lines that say all of a program say the program
  is_said : (said : List Line) → IsReadTo p (datum_count p.graph) (task_count p.graph) (names_of p p.graph.prints) said → IsSaid said p
  is_said said read = record {
    graph = λ i. record { tasks = graph_tasks i; datums = graph_datums i; prints = graph_prints i };
    datum_names = sym names;
    task_names = sym (read.task_names_are ∙ take_all (task_count p.graph) p.task_names (omega (arith, is.task_names)));
    bodies = subst (AllZip IsBodyOf (bodies said)) (take_all (task_count p.graph) p.bodies (omega (arith, is.bodies))) read.bodies_are;
  }
    where
      names : datum_names said ≡ p.datum_names
      names = read.names_are ∙ take_all (datum_count p.graph) p.datum_names (omega (arith, is.datum_names))

      graph_tasks : p.graph.tasks ≡ tasks said
      graph_tasks = sym (read.tasks_are ∙ take_all (task_count p.graph) p.graph.tasks (omega arith))

      graph_datums : p.graph.datums ≡ datums said
      graph_datums = sym (read.datums_are ∙ take_all (datum_count p.graph) p.graph.datums (omega arith))

      graph_prints : p.graph.prints ≡ datum_ids (datum_names said) (prints said)
      graph_prints =
          sym (ids_again p.datum_names is.datums_differ p.graph.prints (have_names p g is p.graph.prints g.holds.prints))
          ∙ ap (λ (ns : List Name). datum_ids ns (names_of p p.graph.prints)) (sym names)
          ∙ ap (datum_ids (datum_names said)) (sym read.prints_are)

  -- the canonical text stands for the program
  pub stands_for : AreLineTokens (data_lines p) → AreLineTokens (all_task_lines p) → AreLineTokens (print_lines p)
      → ((t : ℕ) → t < task_count p.graph → IsReadAgain (body_at p t) (read_names p t) (written_names p t)) → StandsFor (program_text p) p
  stands_for data_are tasks_are prints_are again =
      let all = all_read tasks_are again in
      let said : List Line = after [] (program_lines p) in
      let are : AreLineTokens (program_lines p) = tokens-append (data_lines p) (all_task_lines p ++ print_lines p) data_are (tokens-append (all_task_lines p) (print_lines p) tasks_are prints_are) in
      let closed : IsTrue (is_outside (stage_of said)) = ap is_outside all.1.outside in
      let saying : IsSaid said p = is_said said all.1 in
      record {
        said = said;
        fine = read_fine (program_lines p) are all.0 closed;
        sound = subst IsSound saying.graph (graph_is_sound p.graph g);
        program = saying;
      }
