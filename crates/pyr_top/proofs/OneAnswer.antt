-- The defined answer is one.
use Rattle.std.proofs.Common.{◌≡◌, ◌≢◌, ◌⊎◌, ◌<◌, refl, map, inl, inr, ℕ, List, Result, Ok, Err, length, sym, ap, subst, ◌∙◌, arith}
use Rattle.std.proofs.lemmas.Bool.{cases_lt, cases_order}
use Rattle.pyr_num.specs.declared.limits.TheConstants.Limits.{INPUT}
use Rattle.pyr_top.specs.declared.command.Command.{Command}
use Rattle.pyr_top.specs.declared.command.Command.TheVariants.{Seq, Cluster, Compile, Gantt, Check, Run, Make, VerifyMake}
use Rattle.pyr_top.specs.declared.refusal.Refusal.{Refusal}
use Rattle.pyr_top.specs.declared.refusal.Refusal.TheVariants.{Usage, Source, Sink, Memory, TooLong, Program, Load}
use Rattle.pyr_seq.specs.Sequential.{HasOneWriter}
use Rattle.pyr_seq.proofs.SequentialLemmas.{outputs-same}
use Rattle.pyr_graph.specs.System.{datum_numbers}
use Rattle.pyr_graph.specs.Faults.{IsSound}
use Rattle.pyr_graphtext.specs.Program.{ProgramParts, tasks_of}
use Rattle.pyr_graphtext.specs.declared.program_fault.ProgramFault.{ProgramFault}
use Rattle.pyr_graphtext.specs.declared.program_fault.ProgramFault.TheVariants as faults
use Rattle.pyr_graphtext.specs.Answer.{StandsFor, IsFaultOf}
use Rattle.pyr_graphtext.proofs.OneAnswer.{one_answer_is_told}
use Rattle.pyr_compile.proofs.UniqueLemmas.{one_text}
use Rattle.pyr_num.specs.declared.ids.DatumId.{DatumId}
use Rattle.pyr_bundle.specs.Values.{tasks_of as tasks_of_bundle}
use Rattle.pyr_bundle.proofs.ValueLemmas.{has_one_writer}
use Rattle.pyr_machine.specs.Good.{Loads}
use Rattle.pyr_loader.specs.declared.load_fault.LoadFault.{LoadFault}
use Rattle.pyr_loader.specs.declared.load_fault.LoadFault.TheVariants as loads
use Rattle.pyr_loader.specs.Answer.{IsLoadOf, IsRefusal}
use Rattle.pyr_loader.specs.Laws.{OneAnswerIsTold}
use Rattle.pyr_loader.proofs.OneAnswer.{one_answer as one_load_answer, is_bundle}
use Rattle.pyr_verify.specs.declared.summary.Summary.{Summary}
use Rattle.pyr_verify.proofs.OneSummary.{one_summary}
use Rattle.pyr_top.specs.SummaryText.{summary_text}
use Rattle.pyr_top.specs.OutputsText.{outputs_text, bundle_outputs}
use Rattle.pyr_top.proofs.ClusterLemmas.{one_cluster_report}
use Rattle.pyr_top.proofs.GanttLemmas.{one_gantt_report}
use Rattle.pyr_top.specs.Answers.{IsPrinted, IsClusterReport, IsBundleText, IsGanttReport, IsTextFor, GivesText, RefusesProgram, RefusesBundle, IsCheckReport, IsRunOutput, IsTextOfLoaded, GivesLoaded, GivesSummary, Gives, Answers}

loading : OneAnswerIsTold
loading = one_load_answer

-- no two tasks of a sound graph write one datum
one_writer : (p : ProgramParts) (frame : ℕ) → IsSound p.graph → HasOneWriter (tasks_of p frame)
one_writer p frame sound a b d is_a is_b writes_a writes_b =
    elim (cases_order a b) [
      | inl same ↦ same
      | inr apart ↦ absurd (sound.written.single.one_writer d (a, b, differ a b apart, (is_a, writes_a), (is_b, writes_b)))
    ]
  where
    differ : (x y : ℕ) → (x < y) ⊎ (y < x) → x ≡ y → ⊥
    differ x y (inl less) e = omega (arith, less, e)
    differ x y (inr more) e = omega (arith, more, e)

-- a program prints one text
one_print : (p : ProgramParts) (a b : List ℕ) → IsSound p.graph → IsPrinted p a → IsPrinted p b → a ≡ b
one_print p a b sound first second =
    first.text
    ∙ ap (outputs_text p) (outputs-same (tasks_of p 0) first.order second.order (one_writer p 0 sound) first.ordered second.ordered (datum_numbers p.graph.prints))
    ∙ sym second.text

-- a graph text is refused by a fault
program_fault : (input : List ℕ) (refusal : Refusal) → RefusesProgram input refusal → (fault : ProgramFault) × (refusal ≡ Program fault) × (fault ≢ faults.Memory) × IsFaultOf input fault
program_fault input (Program fault) refuses = (fault, refl, refuses.0, refuses.1)
program_fault input (Load fault) refuses = absurd refuses
program_fault input Usage refuses = absurd refuses
program_fault input Source refuses = absurd refuses
program_fault input Sink refuses = absurd refuses
program_fault input Memory refuses = absurd refuses
program_fault input TooLong refuses = absurd refuses

-- in one way
one_refusal : (input : List ℕ) (a b : Refusal) → RefusesProgram input a → RefusesProgram input b → a ≡ b
one_refusal input a b first second =
    let (f, is_f, some_f, of_f) = program_fault input a first in
    let (g, is_g, some_g, of_g) = program_fault input b second in
    is_f ∙ ap Program (one_answer_is_told.one_fault input f g some_f some_g of_f of_g) ∙ sym is_g

-- and not where it stands for a program
pub stands_or_refuses : (input : List ℕ) (p : ProgramParts) (r : Refusal) → StandsFor input p → RefusesProgram input r → ⊥
stands_or_refuses input p r stands refuses =
    let (fault, is_fault, some, of_fault) = program_fault input r refuses in
    one_answer_is_told.not_both input p fault some stands of_fault

-- where a program has one such text, a graph text has one
one_text_for : (IsText : ProgramParts → List ℕ → Type 0) (input a b : List ℕ) → ((p : ProgramParts) → IsSound p.graph → IsText p a → IsText p b → a ≡ b) → IsTextFor IsText input a → IsTextFor IsText input b → a ≡ b
one_text_for IsText input a b unique first second =
    let same : first.program ≡ second.program = one_answer_is_told.one_program input first.program second.program first.stands second.stands in
    let sound : IsSound second.program.graph = subst IsSound (sym second.stands.program.graph) second.stands.sound in
    unique second.program sound (subst (λ (p : ProgramParts). IsText p a) same first.text) second.text

-- and one answer is given for it
one_text_given : (IsText : ProgramParts → List ℕ → Type 0) (input : List ℕ) (given other : Result (List ℕ) Refusal) → ((p : ProgramParts) (a b : List ℕ) → IsSound p.graph → IsText p a → IsText p b → a ≡ b)
    → GivesText IsText input given → GivesText IsText input other → given ≡ other
one_text_given IsText input (Ok a) (Ok b) unique first second = ap Ok (one_text_for IsText input a b (λ p. unique p a b) first second)
one_text_given IsText input (Ok a) (Err r) unique first second = absurd (stands_or_refuses input first.program r first.stands second)
one_text_given IsText input (Err r) (Ok b) unique first second = absurd (stands_or_refuses input second.program r second.stands first)
one_text_given IsText input (Err r) (Err q) unique first second = ap Err (one_refusal input r q first second)

-- a program is compiled to one text
one_bundle_text : (processors : ℕ) (p : ProgramParts) (a b : List ℕ) → IsBundleText processors p a → IsBundleText processors p b → a ≡ b
one_bundle_text processors p a b first second = first.text.written ∙ one_text p processors first.raw second.raw first.compiled second.compiled ∙ sym second.text.written

-- a bundle text is refused by a fault
load_fault : (input : List ℕ) (refusal : Refusal) → RefusesBundle input refusal → (fault : LoadFault) × (refusal ≡ Load fault) × (fault ≢ loads.Memory) × IsRefusal input fault
load_fault input (Program fault) refuses = absurd refuses
load_fault input (Load fault) refuses = (fault, refl, refuses.0, refuses.1)
load_fault input Usage refuses = absurd refuses
load_fault input Source refuses = absurd refuses
load_fault input Sink refuses = absurd refuses
load_fault input Memory refuses = absurd refuses
load_fault input TooLong refuses = absurd refuses

-- in one way
one_fault : (input : List ℕ) (a b : Refusal) → RefusesBundle input a → RefusesBundle input b → a ≡ b
one_fault input a b first second =
    let (f, is_f, some_f, of_f) = load_fault input a first in
    let (g, is_g, some_g, of_g) = load_fault input b second in
    is_f ∙ ap Load (loading.one_refusal input f g some_f some_g of_f of_g) ∙ sym is_g

-- and not where it is accepted
pub loaded_or_refused : (input : List ℕ) (l : Loads) (r : Refusal) → IsLoadOf input l → RefusesBundle input r → ⊥
loaded_or_refused input l r loaded refuses =
    let (fault, is_fault, some, of_fault) = load_fault input r refuses in
    loading.not_both input l fault some loaded of_fault

-- where a loaded bundle has one such text, a bundle text has one
one_text_of : (IsText : Loads → List ℕ → Type 0) (input a b : List ℕ) → ((l : Loads) → IsLoadOf input l → IsText l a → IsText l b → a ≡ b) → IsTextOfLoaded IsText input a → IsTextOfLoaded IsText input b → a ≡ b
one_text_of IsText input a b unique first second =
    let same : first.loaded ≡ second.loaded = loading.one_load input first.loaded second.loaded first.loads second.loads in
    unique second.loaded second.loads (subst (λ (l : Loads). IsText l a) same first.text) second.text

-- and one answer is given for it
one_loaded_given : (IsText : Loads → List ℕ → Type 0) (input : List ℕ) (given other : Result (List ℕ) Refusal) → ((l : Loads) (a b : List ℕ) → IsLoadOf input l → IsText l a → IsText l b → a ≡ b)
    → GivesLoaded IsText input given → GivesLoaded IsText input other → given ≡ other
one_loaded_given IsText input (Ok a) (Ok b) unique first second = ap Ok (one_text_of IsText input a b (λ l. unique l a b) first second)
one_loaded_given IsText input (Ok a) (Err r) unique first second = absurd (loaded_or_refused input first.loaded r first.loads second)
one_loaded_given IsText input (Err r) (Ok b) unique first second = absurd (loaded_or_refused input second.loaded r second.loads first)
one_loaded_given IsText input (Err r) (Err q) unique first second = ap Err (one_fault input r q first second)

-- a loaded bundle prints one text
one_run_output : (input : List ℕ) (l : Loads) (a b : List ℕ) → IsLoadOf input l → IsRunOutput l a → IsRunOutput l b → a ≡ b
one_run_output input l a b is first second =
    first.text
    ∙ ap (bundle_outputs l.bundle)
    (outputs-same (tasks_of_bundle l.bundle 0) first.order second.order (has_one_writer l.bundle 0 (is_bundle input l.bundle is.is_text)) first.ordered second.ordered
    (map (λ (d : DatumId). d.0) l.bundle.prints))
    ∙ sym second.text

-- a generated graph has one text of figures
one_summary_given : (tasks processors : ℕ) (given other : Result (List ℕ) Refusal) → GivesSummary tasks processors given → GivesSummary tasks processors other → given ≡ other
one_summary_given tasks processors (Ok a) (Ok b) first second = ap Ok (first.text ∙ ap (λ (s : Summary). summary_text s) (one_summary tasks processors first.summary second.summary first.is second.is) ∙ sym second.text)
one_summary_given tasks processors (Ok a) (Err r) first second = absurd second
one_summary_given tasks processors (Err r) other first second = absurd first

one_given : (command : Command) (input : List ℕ) (given other : Result (List ℕ) Refusal) → Gives command input given → Gives command input other → given ≡ other
one_given Seq input given other first second = one_text_given IsPrinted input given other one_print first second
one_given Cluster input given other first second = one_text_given IsClusterReport input given other (λ p a b sound. one_cluster_report p a b) first second
one_given (Compile processors) input given other first second = one_text_given (IsBundleText processors) input given other (λ p a b sound. one_bundle_text processors p a b) first second
one_given (Gantt processors) input given other first second = one_text_given (IsGanttReport processors) input given other (λ p a b sound. one_gantt_report processors p a b) first second
one_given Check input given other first second = one_loaded_given IsCheckReport input given other (λ l a b is one two. one ∙ sym two) first second
one_given Run input given other first second = one_loaded_given IsRunOutput input given other (one_run_output input) first second
one_given (Make tasks) input given other first second = first ∙ sym second
one_given (VerifyMake tasks processors) input given other first second = one_summary_given tasks processors given other first second

-- a command has one defined answer to an input
pub one_answer : (command : Command) (input : List ℕ) (given other : Result (List ℕ) Refusal) → Answers command input given → Answers command input other → given ≡ other
one_answer command input given other first second =
    elim (cases_lt INPUT (length input)) [
      | inl over ↦ first.above over ∙ sym (second.above over)
      | inr fits ↦ one_given command input given other (first.within fits) (second.within fits)
    ]
