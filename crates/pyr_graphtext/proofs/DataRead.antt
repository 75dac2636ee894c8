-- The canonical lines of data and of prints pass their tests, and say these data and prints.
use Rattle.std.proofs.Common.{◌≡◌, ℕ, zero, suc, ◌+◌, ◌<◌, true, false, List, [], ◌∷◌, ◌++◌, length, map, None, refl, sym, ap, subst, ◌∙◌, arith, append_assoc, length-append}
use Rattle.std.specs.Prelude.{◌≢◌, AllPairs, All}
use Rattle.std.specs.List.{range_with_len}
use Rattle.std.proofs.Math.Seq.{take-suc}
use Rattle.std.proofs.lemmas.List.{length-take-le, length-map, map-append, append-nil, take_all}
use Rattle.std.proofs.lemmas.List.Elements.{All-contains, Contains-append_right}
use Rattle.pyr_num.specs.declared.ids.DatumId.{DatumId}
use Rattle.pyr_num.specs.declared.name.Name.{Name}
use Rattle.pyr_num.specs.declared.limits.TheConstants.Limits.{PRINTS}
use Rattle.pyr_graph.specs.declared.parts.DatumParts.{DatumParts}
use Rattle.pyr_graph.specs.System.{task_count, datum_count, datum_numbers, length_of, comm_of}
use Rattle.pyr_graph.specs.WholeGraph.{IsGraph}
use Rattle.pyr_graphtext.specs.declared.form.Form.TheVariants.{Data, Print}
use Rattle.pyr_graphtext.specs.declared.stage.Stage.{Stage}
use Rattle.pyr_graphtext.specs.declared.stage.Stage.TheVariants.{Outside}
use Rattle.pyr_graphtext.specs.Line.{Line, tokens_of_line}
use Rattle.pyr_graphtext.specs.Statements.{is_among}
use Rattle.pyr_graphtext.specs.Earlier.{stage_of, datum_names, prints}
use Rattle.pyr_graphtext.specs.Faults.{is_outside, data_fault, print_fault, form_fault, fault_behind}
use Rattle.pyr_graphtext.specs.Outcome.{IsShallow, is_statement}
use Rattle.pyr_graphtext.specs.Program.{ProgramParts, IsProgram, datum_name}
use Rattle.pyr_graphtext.specs.Canonical.{names_of, data_line, print_line}
use Rattle.pyr_graphtext.proofs.Pairs.{not_earlier, All-left}
use Rattle.pyr_graphtext.proofs.NumberedNames.{Exist, among, not_in_front, not_among}
use Rattle.pyr_graphtext.proofs.LinesRead.{after, Pass}
use Rattle.pyr_graphtext.proofs.FormPasses.{data_passes, print_passes}
use Rattle.pyr_graphtext.proofs.TaskRead.{form_passes}
use Rattle.pyr_graphtext.proofs.ReadSoFar.{IsReadTo, have_names}

data_form : (said : List Line) (name : Name) (words comm : ℕ) → data_fault (stage_of said) (datum_names said) name words comm ≡ None → form_fault said (Data name words comm) ≡ None
unfolding form_fault
data_form said name words comm fine = fine

print_form : (said : List Line) (name : Name) → print_fault (stage_of said) (datum_names said) (prints said) name ≡ None → form_fault said (Print name) ≡ None
unfolding form_fault
print_form said name fine = fine

-- a line outside a task that begins with neither a word of a body nor within a task has no limit on the depth
pub outside_shallow : (said : List Line) (ts : List _) → stage_of said ≡ Outside → (is_statement true ts ≡ false) → IsShallow (is_outside (stage_of said)) ts
outside_shallow said ts o none s =
    absurd (let e : false ≡ true = sym none ∙ sym (ap (λ (st : Stage). is_statement (is_outside st) ts) o) ∙ s in cc)

module _ (p : ProgramParts) (g : IsGraph p.graph) (is : IsProgram p) where
  -- a datum more
  datum_read : (d : ℕ) (said : List Line) → d < datum_count p.graph → IsReadTo p d 0 [] said → IsReadTo p (suc d) 0 [] (data_line p d ∷ said)
  datum_read d said below read = record {
    outside = read.outside;
    names_are = ap (λ (ns : List Name). ns ++ datum_name p d ∷ []) read.names_are ∙ sym (take-suc p.datum_names d [] (omega (arith, below, is.datum_names)));
    datums_are = ap (λ (ds : List DatumParts). ds ++ datum ∷ []) read.datums_are ∙ sym (take-suc p.graph.datums d (record { length = 0; comm = 0 }) below);
    task_names_are = read.task_names_are;
    tasks_are = read.tasks_are;
    bodies_are = read.bodies_are;
    written_are = read.written_are;
    prints_are = read.prints_are;
    reads_are = read.reads_are;
    nodes_are = read.nodes_are;
    work_are = read.work_are;
  }
    where
      datum : DatumParts
      datum = record { length = length_of p.graph d; comm = comm_of p.graph d }

  datum_passes : (d : ℕ) (said : List Line) → d < datum_count p.graph → IsReadTo p d 0 [] said → fault_behind said (data_line p d) ≡ None
  datum_passes d said below read =
      let inside : d < length p.datum_names = omega (arith, below, is.datum_names) in
      let front : length (datum_names said) ≡ d = ap length read.names_are ∙ length-take-le d p.datum_names (omega (arith, inside)) in
      let new : is_among (datum_names said) (datum_name p d) ≡ false = ap (λ (ns : List Name). is_among ns (datum_name p d)) read.names_are ∙ not_in_front p.datum_names is.datums_differ d inside in
      let long = g.limits.lengths d (record { length = 0; comm = 0 }) below in
      form_passes said (Data (datum_name p d) (length_of p.graph d) (comm_of p.graph d))
      (data_form said (datum_name p d) (length_of p.graph d) (comm_of p.graph d)
      (data_passes (stage_of said) (datum_names said) (datum_name p d) (length_of p.graph d) (comm_of p.graph d)
      (ap is_outside read.outside) (omega (arith, front, below, g.limits.datums)) long.0 long.1 (g.limits.comms d) new))

  -- the data are read
  pub data_read : (n d : ℕ) (said : List Line) → d + n ≡ datum_count p.graph → IsReadTo p d 0 [] said
      → Pass said (map (data_line p) (range_with_len d n)) × IsReadTo p (datum_count p.graph) 0 [] (after said (map (data_line p) (range_with_len d n)))
  data_read zero d said e read = (tt, subst (λ k. IsReadTo p k 0 [] said) (let s : d ≡ datum_count p.graph = omega (arith, e) in s) read)
  data_read (suc n) d said e read =
      let below : d < datum_count p.graph = omega (arith, e) in
      let next : IsReadTo p (d + 1) 0 [] (data_line p d ∷ said) = subst (λ k. IsReadTo p k 0 [] (data_line p d ∷ said)) (let s : suc d ≡ d + 1 = omega arith in s) (datum_read d said below read) in
      let more = data_read n (d + 1) (data_line p d ∷ said) (omega (arith, e)) next in
      ((datum_passes d said below read, outside_shallow said (tokens_of_line (data_line p d)) read.outside refl, more.0), more.1)

  -- a print more
  print_read : (d : DatumId) (front : List DatumId) (said : List Line) → IsReadTo p (datum_count p.graph) (task_count p.graph) (names_of p front) said
      → IsReadTo p (datum_count p.graph) (task_count p.graph) (names_of p (front ++ d ∷ [])) (print_line (datum_name p d.0) ∷ said)
  print_read d front said read = record {
    outside = read.outside;
    names_are = read.names_are;
    datums_are = read.datums_are;
    task_names_are = read.task_names_are;
    tasks_are = read.tasks_are;
    bodies_are = read.bodies_are;
    written_are = read.written_are;
    prints_are = ap (λ (ns : List Name). ns ++ datum_name p d.0 ∷ []) read.prints_are ∙ sym (map-append (λ (d : DatumId). datum_name p d.0) front (d ∷ []));
    reads_are = read.reads_are;
    nodes_are = read.nodes_are;
    work_are = read.work_are;
  }

  print_passes_there : (d : DatumId) (front rest : List DatumId) (said : List Line) → front ++ d ∷ rest ≡ p.graph.prints
      → IsReadTo p (datum_count p.graph) (task_count p.graph) (names_of p front) said → fault_behind said (print_line (datum_name p d.0)) ≡ None
  print_passes_there d front rest said parts read =
      let exist : All (λ e. e.0 < datum_count p.graph) (front ++ d ∷ rest) = subst (All (λ e. e.0 < datum_count p.graph)) (sym parts) g.holds.prints in
      let here : d.0 < datum_count p.graph = All-contains (λ e. e.0 < datum_count p.graph) (front ++ d ∷ rest) d exist (Contains-append_right front (d ∷ rest) d (0, omega arith, refl)) in
      let inside : d.0 < length p.datum_names = omega (arith, here, is.datum_names) in
      let before : Exist p.datum_names is.datums_differ front = have_names p g is front (All-left (λ e. e.0 < datum_count p.graph) front (d ∷ rest) exist) in
      let once : AllPairs (λ x y. x ≢ y) (datum_numbers front ++ d.0 ∷ datum_numbers rest) =
      subst (AllPairs (λ x y. x ≢ y)) (ap datum_numbers (sym parts) ∙ map-append (λ (e : DatumId). e.0) front (d ∷ rest)) g.prints_once in
      let new : is_among (names_of p front) (datum_name p d.0) ≡ false = not_among p.datum_names is.datums_differ front d.0 before inside (not_earlier (datum_numbers front) d.0 (datum_numbers rest) once) in
      let all_names : datum_names said ≡ p.datum_names = read.names_are ∙ take_all (datum_count p.graph) p.datum_names (omega (arith, is.datum_names)) in
      let long : length (prints said) ≡ length front = ap length read.prints_are ∙ length-map front (λ (e : DatumId). datum_name p e.0) in
      let few : length front < PRINTS = omega (arith, ap length parts, length-append front (d ∷ rest), g.limits.prints) in
      form_passes said (Print (datum_name p d.0))
      (print_form said (datum_name p d.0)
      (print_passes (stage_of said) (datum_names said) (prints said) (datum_name p d.0) (ap is_outside read.outside) (omega (arith, long, few))
      (ap (λ (ns : List Name). is_among ns (datum_name p d.0)) all_names ∙ among p.datum_names is.datums_differ d.0 inside)
      (ap (λ (ns : List Name). is_among ns (datum_name p d.0)) read.prints_are ∙ new)))

  -- the prints are read
  pub prints_read : (rest front : List DatumId) (said : List Line) → front ++ rest ≡ p.graph.prints
      → IsReadTo p (datum_count p.graph) (task_count p.graph) (names_of p front) said
      → Pass said (map print_line (names_of p rest)) × IsReadTo p (datum_count p.graph) (task_count p.graph) (names_of p p.graph.prints) (after said (map print_line (names_of p rest)))
  prints_read [] front said parts read =
      (tt, subst (λ ds. IsReadTo p (datum_count p.graph) (task_count p.graph) (names_of p ds) said) (sym (append-nil front) ∙ parts) read)
  prints_read (d ∷ rest) front said parts read =
      let more = prints_read rest (front ++ d ∷ []) (print_line (datum_name p d.0) ∷ said) (append_assoc front (d ∷ []) rest ∙ parts) (print_read d front said read) in
      ((print_passes_there d front rest said parts read, outside_shallow said (tokens_of_line (print_line (datum_name p d.0))) read.outside refl, more.0), more.1)
