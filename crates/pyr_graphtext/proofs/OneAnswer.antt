-- One text stands for one program at most, has one fault at most, and not both.
use Rattle.std.proofs.Common.{◌≡◌, ℕ, inl, inr, List, [], ◌∷◌, refl, sym, ap, subst, ◌∙◌}
use Rattle.std.specs.Prelude.{◌≢◌, ◌⊎◌}
use Rattle.std.specs.List.{AllZip}
use Rattle.pyr_num.specs.declared.name.Name.{Name}
use Rattle.pyr_body.specs.Parts.{BodyParts}
use Rattle.pyr_body.proofs.TreeLines.{lines_are_one_tree}
use Rattle.pyr_graph.specs.Faults.{IsFault, IsSound}
use Rattle.pyr_graph.specs.declared.fault.GraphFault.{GraphFault}
use Rattle.pyr_graph.specs.declared.fault.GraphFault.TheVariants as graph_faults
use Rattle.pyr_graph.proofs.OneFault.{IsFault-one, none_where_sound}
use Rattle.pyr_graphtext.specs.declared.line_fault.LineFault.{LineFault}
use Rattle.pyr_graphtext.specs.declared.line_fault.LineFault.TheVariants as faults
use Rattle.pyr_graphtext.specs.declared.program_fault.ProgramFault.{ProgramFault}
use Rattle.pyr_graphtext.specs.declared.program_fault.ProgramFault.TheVariants.{BadText, Limit, Names, NoTask, NoWriter, Cycle, Memory}
use Rattle.pyr_graphtext.specs.Line.{Line}
use Rattle.pyr_graphtext.specs.Statements.{WrittenBody, IsBodyOf}
use Rattle.pyr_graphtext.specs.Program.{ProgramParts}
use Rattle.pyr_graphtext.specs.Said.{system_said, datum_name_said, task_names_said, IsSaid}
use Rattle.pyr_graphtext.specs.FirstFault.{IsFirstFault, IsFine}
use Rattle.pyr_graphtext.specs.Answer.{StandsFor, IsFaultOf, OneAnswerIsTold}
use Rattle.pyr_graphtext.proofs.FirstFaultLemmas.{one_fine, fine_or_faulty, one_first_fault}

-- a body is written in one way
one_body : (w : WrittenBody) (a b : BodyParts) → IsBodyOf w a → IsBodyOf w b → a ≡ b
one_body w a b p q =
    let statements : a.statements ≡ b.statements = lines_are_one_tree a.statements b.statements (p.lines ∙ sym q.lines) in
    let locals : a.locals ≡ b.locals = p.locals ∙ sym q.locals in
    let reads : a.reads ≡ b.reads = p.reads ∙ sym q.reads in
    let writes : a.writes ≡ b.writes = p.writes ∙ sym q.writes in
    λ i. record { statements = statements i; locals = locals i; reads = reads i; writes = writes i }

one_list : (ws : List WrittenBody) (xs ys : List BodyParts) → AllZip IsBodyOf ws xs → AllZip IsBodyOf ws ys → xs ≡ ys
one_list [] [] [] p q = refl
one_list [] [] (y ∷ ys) p q = absurd q
one_list [] (x ∷ xs) ys p q = absurd p
one_list (w ∷ ws) [] ys p q = absurd p
one_list (w ∷ ws) (x ∷ xs) [] p q = absurd q
one_list (w ∷ ws) (x ∷ xs) (y ∷ ys) p q =
    ap (λ (b : BodyParts). b ∷ xs) (one_body w x y p.0 q.0) ∙ ap (λ (bs : List BodyParts). y ∷ bs) (one_list ws xs ys p.1 q.1)

-- lines say one program
one_said_program : (said : List Line) (p q : ProgramParts) → IsSaid said p → IsSaid said q → p ≡ q
one_said_program said p q a b =
    let graph : p.graph ≡ q.graph = a.graph ∙ sym b.graph in
    let datum_names : p.datum_names ≡ q.datum_names = a.datum_names ∙ sym b.datum_names in
    let task_names : p.task_names ≡ q.task_names = a.task_names ∙ sym b.task_names in
    let bodies : p.bodies ≡ q.bodies = one_list _ p.bodies q.bodies a.bodies b.bodies in
    λ i. record { graph = graph i; datum_names = datum_names i; task_names = task_names i; bodies = bodies i }

one_program : (text : List ℕ) (p q : ProgramParts) → StandsFor text p → StandsFor text q → p ≡ q
one_program text p q a b =
    let same : a.said ≡ b.said = one_fine text a.said b.said a.fine b.fine in
    one_said_program b.said p q (subst (λ s. IsSaid s p) same a.program) b.program

-- how the fault of a line, and of a graph that lines say, is told
line_told : ℕ → LineFault → ProgramFault
line_told n faults.Text = BadText n
line_told n (faults.Limit which) = Limit n which
line_told n (faults.Names kind name) = Names n kind name
line_told n faults.Memory = Memory

graph_told : List Line → GraphFault → ProgramFault
graph_told said graph_faults.NoTask = NoTask
graph_told said (graph_faults.NoWriter datum) = NoWriter (datum_name_said said datum.0)
graph_told said (graph_faults.Cycle tasks) = Cycle (task_names_said said tasks)
graph_told said fault = Memory

-- a fault is that of a line, or that of the graph
record IsOfLine (text : List ℕ) (fault : ProgramFault) : Type 0 where
  pub number : ℕ
  pub line_fault : LineFault
  pub first : IsFirstFault text number line_fault
  pub is : fault ≡ line_told number line_fault

record IsOfGraph (text : List ℕ) (fault : ProgramFault) : Type 0 where
  pub said : List Line
  pub fine : IsFine text said
  pub graph_fault : GraphFault
  pub other : graph_fault ≢ graph_faults.Memory
  pub first : IsFault (system_said said) graph_fault
  pub is : fault ≡ graph_told said graph_fault

whose : (text : List ℕ) (fault : ProgramFault) → fault ≢ Memory → IsFaultOf text fault → IsOfLine text fault ⊎ IsOfGraph text fault
unfolding line_told graph_told
whose text (BadText n) other f = inl (record { number = n; line_fault = faults.Text; first = f; is = refl })
whose text (Limit n which) other f = inl (record { number = n; line_fault = faults.Limit which; first = f; is = refl })
whose text (Names n kind name) other f = inl (record { number = n; line_fault = faults.Names kind name; first = f; is = refl })
whose text NoTask other f = inr (record { said = f.said; fine = f.fine; graph_fault = graph_faults.NoTask; other = λ e. cc; first = f.none; is = refl })
whose text (NoWriter name) other f =
    inr (record { said = f.said; fine = f.fine; graph_fault = graph_faults.NoWriter (record { 0 = f.datum }); other = λ e. cc; first = f.smallest; is = ap (λ (n : Name). NoWriter n) f.named })
whose text (Cycle names) other f =
    inr (record { said = f.said; fine = f.fine; graph_fault = graph_faults.Cycle f.tasks; other = λ e. cc; first = f.cycle; is = ap (λ (ns : List Name). Cycle ns) f.named })
whose text Memory other f = absurd (other refl)

one_fault : (text : List ℕ) (fault other : ProgramFault) → fault ≢ Memory → other ≢ Memory → IsFaultOf text fault → IsFaultOf text other → fault ≡ other
one_fault text fault other no_memory nor_memory f g = of_both (whose text fault no_memory f) (whose text other nor_memory g) where
  of_both : IsOfLine text fault ⊎ IsOfGraph text fault → IsOfLine text other ⊎ IsOfGraph text other → fault ≡ other
  of_both (inl a) (inl b) =
      let same = one_first_fault text a.number b.number a.line_fault b.line_fault a.first b.first in
      a.is ∙ ap (λ (n : ℕ). line_told n a.line_fault) same.0 ∙ ap (line_told b.number) same.1 ∙ sym b.is
  of_both (inl a) (inr b) = absurd (fine_or_faulty text b.said a.number a.line_fault b.fine a.first)
  of_both (inr a) (inl b) = absurd (fine_or_faulty text a.said b.number b.line_fault a.fine b.first)
  of_both (inr a) (inr b) =
      let same : a.said ≡ b.said = one_fine text a.said b.said a.fine b.fine in
      let first : IsFault (system_said b.said) a.graph_fault = subst (λ s. IsFault (system_said s) a.graph_fault) same a.first in
      let one : a.graph_fault ≡ b.graph_fault = IsFault-one (system_said b.said) a.graph_fault b.graph_fault a.other b.other first b.first in
      a.is ∙ ap (λ (s : List Line). graph_told s a.graph_fault) same ∙ ap (graph_told b.said) one ∙ sym b.is

not_both : (text : List ℕ) (p : ProgramParts) (fault : ProgramFault) → fault ≢ Memory → StandsFor text p → IsFaultOf text fault → ⊥
not_both text p fault no_memory s f = of_either (whose text fault no_memory f) where
  of_either : IsOfLine text fault ⊎ IsOfGraph text fault → ⊥
  of_either (inl a) = fine_or_faulty text s.said a.number a.line_fault s.fine a.first
  of_either (inr b) =
      let same : s.said ≡ b.said = one_fine text s.said b.said s.fine b.fine in
      none_where_sound (system_said b.said) (subst (λ t. IsSound (system_said t)) same s.sound) b.graph_fault b.other b.first

pub one_answer_is_told : OneAnswerIsTold
one_answer_is_told = record { one_program = one_program; one_fault = one_fault; not_both = not_both }
