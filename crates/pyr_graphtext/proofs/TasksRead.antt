-- The canonical lines of tasks pass their tests, and say these tasks.
use Rattle.std.proofs.Common.{◌≡◌, ℕ, zero, suc, ◌+◌, ◌<◌, ◌≤◌, false, List, [], ◌∷◌, ◌++◌, length, map, take, get_or, None, refl, sym, ap, subst, ◌∙◌, arith}
use Rattle.std.specs.Prelude.{All, Contains}
use Rattle.std.specs.List.{AllZip, flat_map, range_with_len}
use Rattle.std.proofs.Math.Seq.{take-suc}
use Rattle.std.proofs.lemmas.List.{length-take-le, length-map, take_all, get_or-map}
use Rattle.std.proofs.lemmas.List.Elements.{All-from_get_or, Contains-get_or}
use Rattle.std.proofs.lemmas.List.Sums.{sum_by_more_le}
use Rattle.pyr_num.specs.declared.ids.DatumId.{DatumId}
use Rattle.pyr_num.specs.declared.name.Name.{Name}
use Rattle.pyr_num.specs.declared.limits.TheConstants.Limits.{READS, ALL_READS, WRITES}
use Rattle.pyr_body.specs.Lines.{Line as BodyLine, lines_of}
use Rattle.pyr_body.specs.Named.{line_with_names}
use Rattle.pyr_body.specs.Parts.{BodyParts}
use Rattle.pyr_body.specs.Printed.{AreLineTokens as AreBodyTokens}
use Rattle.pyr_body.specs.RoundTrip.{IsReadAgain}
use Rattle.pyr_body.specs.Taking.{no_lines}
use Rattle.pyr_body.specs.Tree.{End as no_statements}
use Rattle.pyr_body.specs.Written.{WrittenLine}
use Rattle.pyr_graph.specs.declared.parts.TaskParts.{TaskParts}
use Rattle.pyr_graph.specs.System.{task_count, datum_count, task_at, datum_numbers, cost_of, writes_of}
use Rattle.pyr_graph.specs.WholeGraph.{IsGraph}
use Rattle.pyr_graphtext.specs.declared.form.Form.TheVariants.{Task, Reads, Writes}
use Rattle.pyr_graphtext.specs.Line.{Line, Statement, tokens_of_line}
use Rattle.pyr_graphtext.specs.Statements.{is_among, work_of, WrittenBody, IsBodyOf}
use Rattle.pyr_graphtext.specs.Earlier.{stage_of, datum_names, task_names, bodies, written, all_reads, all_nodes, last_reads, last_writes, datum_ids, last_task, last_body}
use Rattle.pyr_graphtext.specs.Faults.{is_outside, task_fault, read_names_fault, written_names_fault, form_fault, fault_behind}
use Rattle.pyr_graphtext.specs.Program.{ProgramParts, IsProgram, task_name, body_at}
use Rattle.pyr_graphtext.specs.Canonical.{names_of, read_names, written_names, task_head, task_end, names_line, body_lines, task_lines, AreLineTokens}
use Rattle.pyr_graphtext.proofs.NumberedNames.{nth, Exist, not_in_front, ids_again, read_names_pass, written_names_pass}
use Rattle.pyr_graphtext.proofs.LinesRead.{after, after-append, Pass, Pass-append}
use Rattle.pyr_graphtext.proofs.FormPasses.{task_passes}
use Rattle.pyr_graphtext.proofs.PrintingLemmas.{names_length}
use Rattle.pyr_graphtext.proofs.Sizes.{nodes_of-body}
use Rattle.pyr_graphtext.proofs.StatementLemmas.{stands_none}
use Rattle.pyr_graphtext.proofs.BodyRead.{IsWithin, IsWhole, is_whole, are_taken}
use Rattle.pyr_graphtext.proofs.TaskRead.{form_passes, opened, HasReads, reads_read, HasWrites, writes_read, HasBody, body_read, open_within, end_read}
use Rattle.pyr_graphtext.proofs.DataRead.{outside_shallow}
use Rattle.pyr_graphtext.proofs.ReadSoFar.{IsReadTo, names_written, reads_in_task, nodes_in, work_in, sum_more, have_names, first_writer, slots_differ}

-- tokens of some of the lines
pub tokens_left : (xs ys : List Line) → AreLineTokens (xs ++ ys) → AreLineTokens xs
tokens_left [] ys t = tt
tokens_left (x ∷ xs) ys t = (t.0, tokens_left xs ys t.1)

pub tokens_right : (xs ys : List Line) → AreLineTokens (xs ++ ys) → AreLineTokens ys
tokens_right [] ys t = t
tokens_right (x ∷ xs) ys t = tokens_right xs ys t.1

body_tokens_of : (locals reads writes : List Name) (xs : List BodyLine) → AreLineTokens (map (λ x. Statement (line_with_names locals reads writes x)) xs) → AreBodyTokens locals reads writes xs
body_tokens_of locals reads writes [] t = tt
body_tokens_of locals reads writes (x ∷ xs) t = (t.0, body_tokens_of locals reads writes xs t.1)

-- a body more
bodies_more : (ws : List WrittenBody) (bs : List BodyParts) (w : WrittenBody) (b : BodyParts) → AllZip IsBodyOf ws bs → IsBodyOf w b → AllZip IsBodyOf (ws ++ w ∷ []) (bs ++ b ∷ [])
bodies_more [] [] w b all is = (is, tt)
bodies_more [] (c ∷ bs) w b all is = absurd all
bodies_more (v ∷ ws) [] w b all is = absurd all
bodies_more (v ∷ ws) (c ∷ bs) w b all is = (all.0, bodies_more ws bs w b all.1 is)

task_form : (said : List Line) (name : Name) (cost : ℕ) → task_fault (stage_of said) (task_names said) name cost ≡ None → form_fault said (Task name cost) ≡ None
unfolding form_fault
task_form said name cost fine = fine

module _ (p : ProgramParts) (g : IsGraph p.graph) (is : IsProgram p) where
  head_passes : (t : ℕ) (said : List Line) → t < task_count p.graph → IsReadTo p (datum_count p.graph) t [] said → fault_behind said (task_head p t) ≡ None
  head_passes t said below read =
      let inside : t < length p.task_names = omega (arith, below, is.task_names) in
      let front : length (task_names said) ≡ t = ap length read.task_names_are ∙ length-take-le t p.task_names (omega (arith, inside)) in
      let new : is_among (task_names said) (task_name p t) ≡ false = ap (λ (ns : List Name). is_among ns (task_name p t)) read.task_names_are ∙ not_in_front p.task_names is.tasks_differ t inside in
      form_passes said (Task (task_name p t) (cost_of p.graph t))
      (task_form said (task_name p t) (cost_of p.graph t)
      (task_passes (stage_of said) (task_names said) (task_name p t) (cost_of p.graph t) (ap is_outside read.outside) (omega (arith, front, below, g.limits.tasks))
      (g.limits.least_costs t (record { cost = 0; reads = []; writes = [] }) below) (g.limits.costs t) new))

  all_names : (t : ℕ) (said : List Line) → IsReadTo p (datum_count p.graph) t [] said → datum_names said ≡ p.datum_names
  all_names t said read = read.names_are ∙ take_all (datum_count p.graph) p.datum_names (omega (arith, is.datum_names))

  task_ids : (t : ℕ) → Exist p.datum_names is.datums_differ (task_at p.graph t).reads × Exist p.datum_names is.datums_differ (task_at p.graph t).writes
  task_ids t = (have_names p g is (task_at p.graph t).reads (g.holds.reads t), have_names p g is (task_at p.graph t).writes (g.holds.writes t))

  -- behind the line of its reads
  reads_there : (t : ℕ) (said : List Line) → t < task_count p.graph → IsReadTo p (datum_count p.graph) t [] said
      → HasReads (cost_of p.graph t) (task_name p t) said (task_head p t ∷ said) (read_names p t)
  reads_there t said below read =
      let rs : List DatumId = (task_at p.graph t).reads in
      let long : length (read_names p t) ≡ length rs = names_length p rs ∙ length-map rs (λ (d : DatumId). d.0) in
      let few : length (read_names p t) ≤ READS = omega (arith, names_length p rs, g.limits.reads t) in
      let sum = sum_by_more_le reads_in_task p.graph.tasks t (record { cost = 0; reads = []; writes = [] }) below in
      let all : all_reads said + length (read_names p t) ≤ ALL_READS = omega (arith, read.reads_are, long, sum, g.limits.all_reads) in
      let fine : read_names_fault (datum_names said) (read_names p t) ≡ None =
      ap (λ (ns : List Name). read_names_fault ns (read_names p t)) (all_names t said read) ∙ read_names_pass p.datum_names is.datums_differ rs (task_ids t).0 (g.reads_once t) in
      reads_read (cost_of p.graph t) (task_name p t) said (task_head p t ∷ said) (read_names p t) (opened (cost_of p.graph t) (task_name p t) said) refl refl few all fine

  -- behind the line of its writes
  writes_there : (t : ℕ) (said : List Line) → t < task_count p.graph → IsReadTo p (datum_count p.graph) t [] said
      → (h : HasReads (cost_of p.graph t) (task_name p t) said (task_head p t ∷ said) (read_names p t))
      → HasWrites (cost_of p.graph t) (task_name p t) said (after (task_head p t ∷ said) (names_line Reads (read_names p t))) (read_names p t) (written_names p t)
  writes_there t said below read h =
      let ws : List DatumId = (task_at p.graph t).writes in
      let few : length (written_names p t) ≤ WRITES = omega (arith, names_length p ws, g.limits.writes t) in
      let first : All (λ d. is_among (names_written p t) (nth p.datum_names is.datums_differ d.0) ≡ false) ws =
      All-from_get_or (λ d. is_among (names_written p t) (nth p.datum_names is.datums_differ d.0) ≡ false) ws (record { 0 = 0 })
      (λ i inside. first_writer p g is t (get_or ws i (record { 0 = 0 })).0 below ((task_ids t).1 i (record { 0 = 0 }) inside)
      (subst (Contains (writes_of p.graph t)) (get_or-map (λ (d : DatumId). d.0) ws i (record { 0 = 0 }) 0 inside)
      (Contains-get_or (datum_numbers ws) i 0 (omega (arith, inside, length-map ws (λ (d : DatumId). d.0)))))) in
      let fine : written_names_fault (datum_names said) (written said) (written_names p t) ≡ None =
      ap (λ (ns : List Name). written_names_fault ns (written said) (written_names p t)) (all_names t said read)
      ∙ ap (λ (ns : List Name). written_names_fault p.datum_names ns (written_names p t)) read.written_are
      ∙ written_names_pass p.datum_names is.datums_differ (names_written p t) ws (task_ids t).1 (g.writes_once t) first in
      writes_read (cost_of p.graph t) (task_name p t) said (after (task_head p t ∷ said) (names_line Reads (read_names p t))) (read_names p t) (written_names p t) h.state h.stage few fine

  -- what its lines say with the last one
  task_said : (t : ℕ) (said whole : List Line) (lines : List WrittenLine) → t < task_count p.graph → IsReadTo p (datum_count p.graph) t [] said
      → HasBody (cost_of p.graph t) (task_name p t) said whole (read_names p t) (written_names p t) lines
      → IsWhole (read_names p t) (written_names p t) (all_nodes said) lines (body_at p t)
      → IsReadTo p (datum_count p.graph) (suc t) [] (task_end ∷ whole)
  task_said t said whole lines below read b w = record {
    outside = refl;
    names_are = b.names_kept ∙ read.names_are;
    datums_are = b.datums_kept ∙ read.datums_are;
    task_names_are = b.task_names_more ∙ ap (λ (ns : List Name). ns ++ task_name p t ∷ []) read.task_names_are ∙ sym (take-suc p.task_names t [] (omega (arith, below, is.task_names)));
    tasks_are = ap (λ (ts : List TaskParts). ts ++ last_task whole ∷ []) (b.tasks_kept ∙ read.tasks_are)
        ∙ ap (λ (x : TaskParts). take t p.graph.tasks ++ x ∷ []) task_is
        ∙ sym (take-suc p.graph.tasks t (record { cost = 0; reads = []; writes = [] }) below);
    bodies_are = subst (AllZip IsBodyOf (bodies (task_end ∷ whole))) (sym (take-suc p.bodies t no_body (omega (arith, below, is.bodies))))
        (bodies_more (bodies whole) (take t p.bodies) (last_body whole) (body_at p t)
        (subst (λ ws. AllZip IsBodyOf ws (take t p.bodies)) (sym b.bodies_kept) read.bodies_are) (subst (λ v. IsBodyOf v (body_at p t)) (sym body_is) w.is_body));
    written_are = b.written_more ∙ ap (λ (ns : List Name). ns ++ written_names p t) read.written_are;
    prints_are = b.prints_kept ∙ read.prints_are;
    reads_are = omega (arith, b.reads_more, read.reads_are, long, sum_more reads_in_task p.graph.tasks t (record { cost = 0; reads = []; writes = [] }) below);
    nodes_are = omega (arith, b.within.nodes_are, read.nodes_are, nodes_of-body (record { reads = read_names p t; writes = written_names p t; lines = lines }) (body_at p t) w.is_body, sum_more nodes_in p.bodies t no_body (omega (arith, below, is.bodies)));
    work_are = omega (arith, b.work_kept, ap work_of b.within.lines_are, read.work_are, w.work_is, sum_more work_in p.bodies t no_body (omega (arith, below, is.bodies)));
  }
    where
      no_body : BodyParts
      no_body = record { statements = no_statements; locals = []; reads = 0; writes = 0 }

      long : length (read_names p t) ≡ length (task_at p.graph t).reads
      long = names_length p (task_at p.graph t).reads ∙ length-map (task_at p.graph t).reads (λ (d : DatumId). d.0)

      ids_are : (ids : List DatumId) (ns : List Name) → Exist p.datum_names is.datums_differ ids → ns ≡ names_of p ids → datum_ids (datum_names whole) ns ≡ ids
      ids_are ids ns exist e =
          ap (λ (names : List Name). datum_ids names ns) (b.names_kept ∙ all_names t said read)
          ∙ ap (datum_ids p.datum_names) e
          ∙ ids_again p.datum_names is.datums_differ ids exist

      task_is : last_task whole ≡ task_at p.graph t
      task_is i = record {
        cost = b.cost_is i;
        reads = ids_are (task_at p.graph t).reads (last_reads whole) (task_ids t).0 b.within.reads_are i;
        writes = ids_are (task_at p.graph t).writes (last_writes whole) (task_ids t).1 b.within.writes_are i;
      }

      body_is : last_body whole ≡ record { reads = read_names p t; writes = written_names p t; lines = lines }
      body_is i = record { reads = b.within.reads_are i; writes = b.within.writes_are i; lines = b.within.lines_are i }

  -- the lines of a task are read
  pub task_read : (t : ℕ) (said : List Line) → t < task_count p.graph → IsReadTo p (datum_count p.graph) t [] said
      → AreLineTokens (task_lines p t) → IsReadAgain (body_at p t) (read_names p t) (written_names p t)
      → Pass said (task_lines p t) × IsReadTo p (datum_count p.graph) (suc t) [] (after said (task_lines p t))
  task_read t said below read are again =
      let body : BodyParts = body_at p t in
      let rs : List Name = read_names p t in
      let ws : List Name = written_names p t in
      let reads_line : List Line = names_line Reads rs in
      let writes_line : List Line = names_line Writes ws in
      let statements : List Line = body_lines body rs ws in
      let xs : List BodyLine = lines_of body.statements in
      let s1 : List Line = task_head p t ∷ said in
      let s2 : List Line = after s1 reads_line in
      let s3 : List Line = after s2 writes_line in
      let s4 : List Line = after s3 statements in
      let h = reads_there t said below read in
      let w = writes_there t said below read h in
      let nodes = sum_by_more_le nodes_in p.bodies t (record { statements = no_statements; locals = []; reads = 0; writes = 0 }) (omega (arith, below, is.bodies)) in
      let found = again (all_nodes said) (slots_differ p g is t below) (omega (arith, read.nodes_are, nodes, is.nodes)) in
      let tokens : AreBodyTokens body.locals rs ws xs =
      body_tokens_of body.locals rs ws xs (tokens_left statements (task_end ∷ []) (tokens_right writes_line (statements ++ task_end ∷ []) (tokens_right reads_line (writes_line ++ (statements ++ task_end ∷ [])) are.1))) in
      let within : IsWithin rs ws (all_nodes said) s3 [] = open_within (cost_of p.graph t) (task_name p t) said s3 rs ws w.state w.stage in
      let taken = are_taken body.locals rs ws (all_nodes said) s3 xs [] (no_lines rs ws (all_nodes said)) found.0 within (stands_none rs ws (all_nodes said)) tokens found.1 in
      let lines : List WrittenLine = after [] (map (line_with_names body.locals rs ws) xs) in
      let whole = is_whole rs ws (all_nodes said) lines found.0 body taken.stands found.2 in
      let b = body_read (cost_of p.graph t) (task_name p t) said s3 body.locals rs ws xs lines w.state taken.within in
      let work = sum_by_more_le work_in p.bodies t (record { statements = no_statements; locals = []; reads = 0; writes = 0 }) (omega (arith, below, is.bodies)) in
      let last = end_read (cost_of p.graph t) (task_name p t) said s4 rs ws lines b whole.closed whole.few (omega (arith, read.work_are, work, whole.work_is, is.work)) in
      let at_end : after said (task_lines p t) ≡ task_end ∷ s4 =
      after-append s1 reads_line (writes_line ++ (statements ++ task_end ∷ []))
      ∙ after-append s2 writes_line (statements ++ task_end ∷ [])
      ∙ after-append s3 statements (task_end ∷ []) in (
        (
          head_passes t said below read,
          outside_shallow said (tokens_of_line (task_head p t)) read.outside refl,
          Pass-append s1 reads_line (writes_line ++ (statements ++ task_end ∷ [])) h.pass
              (Pass-append s2 writes_line (statements ++ task_end ∷ []) w.pass
              (Pass-append s3 statements (task_end ∷ []) taken.pass last)),
        ),
        subst (IsReadTo p (datum_count p.graph) (suc t) []) (sym at_end) (task_said t said s4 lines below read b whole),
      )

  -- and those of all tasks
  pub tasks_read : (n t : ℕ) (said : List Line) → t + n ≡ task_count p.graph → IsReadTo p (datum_count p.graph) t [] said
      → AreLineTokens (flat_map (task_lines p) (range_with_len t n))
      → ((u : ℕ) → u < task_count p.graph → IsReadAgain (body_at p u) (read_names p u) (written_names p u))
      → Pass said (flat_map (task_lines p) (range_with_len t n)) × IsReadTo p (datum_count p.graph) (task_count p.graph) [] (after said (flat_map (task_lines p) (range_with_len t n)))
  tasks_read zero t said e read are again = (tt, subst (λ k. IsReadTo p (datum_count p.graph) k [] said) (let s : t ≡ task_count p.graph = omega (arith, e) in s) read)
  tasks_read (suc n) t said e read are again =
      let below : t < task_count p.graph = omega (arith, e) in
      let rest : List Line = flat_map (task_lines p) (range_with_len (t + 1) n) in
      let one = task_read t said below read (tokens_left (task_lines p t) rest are) (again t below) in
      let said' : List Line = after said (task_lines p t) in
      let next : IsReadTo p (datum_count p.graph) (t + 1) [] said' = subst (λ k. IsReadTo p (datum_count p.graph) k [] said') (let s : suc t ≡ t + 1 = omega arith in s) one.1 in
      let more = tasks_read n (t + 1) said' (omega (arith, e)) next (tokens_right (task_lines p t) rest are) again in (
        Pass-append said (task_lines p t) rest one.0 more.0,
        subst (IsReadTo p (datum_count p.graph) (task_count p.graph) []) (sym (after-append said (task_lines p t) rest)) more.1,
      )
