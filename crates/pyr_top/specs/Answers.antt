-- What the program answers to its words and its input.
use Rattle.std.specs.Prelude.{◌≡◌, ◌≢◌, ⊤, ℕ, ◌<◌, ◌≤◌, List, ◌∷◌, ◌++◌, codes, decimal, Option, Result, Ok, Err, IfSome, IsTrue, length}
use Rattle.pyr_num.specs.declared.limits.TheConstants.Limits.{INPUT}
use Rattle.pyr_top.specs.declared.command.Command.{Command}
use Rattle.pyr_top.specs.declared.command.Command.TheVariants.{Seq, Cluster, Compile, Gantt, Check, Run, Make, VerifyMake}
use Rattle.pyr_top.specs.declared.refusal.Refusal.{Refusal}
use Rattle.pyr_top.specs.declared.refusal.Refusal.TheVariants.{Memory, Program, Load}
use Rattle.pyr_top.specs.Commands.{reads_graph, reads_bundle, input_of, Spells}
use Rattle.pyr_top.specs.Refusals.{too_long}
use Rattle.pyr_top.specs.OutputsText.{outputs_text, bundle_outputs}
use Rattle.pyr_seq.specs.Sequential.{outputs_of}
use Rattle.pyr_graph.specs.System.{datum_numbers}
use Rattle.pyr_graph.specs.Clusters.{cluster_numbers}
use Rattle.pyr_graph.specs.declared.clustering.Clustering.{Clustering}
use Rattle.pyr_graph.specs.declared.placement.Placement.{Placement}
use Rattle.pyr_graph.specs.declared.plan.Plan.{Plan}
use Rattle.pyr_dsc.specs.Run.{IsRun}
use Rattle.pyr_merge.specs.Merge.{IsMerged}
use Rattle.pyr_rcp.specs.Order.{IsOrdered}
use Rattle.pyr_gantt.specs.Gantt.{gantt_report}
use Rattle.pyr_bundle.specs.declared.raw_bundle.RawBundle.{RawBundle}
use Rattle.pyr_bundletext.specs.Answer.{StandsFor as IsTextOf}
use Rattle.pyr_bundle.specs.Values.{IsOrderOf, printed}
use Rattle.pyr_compile.specs.Compiled.{IsCompiled}
use Rattle.pyr_machine.specs.Good.{Loads}
use Rattle.pyr_loader.specs.declared.load_fault.LoadFault.TheVariants as loads
use Rattle.pyr_loader.specs.Answer.{IsLoadOf, IsRefusal}
use Rattle.pyr_make.specs.Layered.{layered_program}
use Rattle.pyr_verify.specs.declared.summary.Summary.{Summary}
use Rattle.pyr_verify.specs.Summary.{IsSummary}
use Rattle.pyr_top.specs.ClusterReport.{cluster_report}
use Rattle.pyr_top.specs.SummaryText.{summary_text}
use Rattle.pyr_graphtext.specs.declared.program_fault.ProgramFault.TheVariants as faults
use Rattle.pyr_graphtext.specs.Program.{ProgramParts, tasks_of}
use Rattle.pyr_graphtext.specs.Canonical.{program_text}
use Rattle.pyr_graphtext.specs.Sequential.{IsOrder}
use Rattle.pyr_graphtext.specs.Answer.{StandsFor, IsFaultOf}

-- what the tasks of a program print, run one by one in a topological order
pub record IsPrinted (program : ProgramParts) (output : List ℕ) : Type 0 where
  pub order : List ℕ
  pub ordered : IsOrder program.graph order
  pub text : output
      ≡ outputs_text program (outputs_of (tasks_of program 0) order (datum_numbers program.graph.prints))

-- the report on the clustering of a program
pub record IsClusterReport (program : ProgramParts) (output : List ℕ) : Type 0 where
  pub clustering : Clustering
  pub run : IsRun program.graph clustering
  pub text : output ≡ cluster_report program clustering

-- the text of the bundle that a program is compiled to, for so many processors
pub record IsBundleText (processors : ℕ) (program : ProgramParts) (output : List ℕ) : Type 0 where
  pub raw : RawBundle
  pub compiled : IsCompiled program processors raw
  -- its one spelling
  pub text : IsTextOf output raw

-- the report on the plan of a program for so many processors
pub record IsGanttReport (processors : ℕ) (program : ProgramParts) (output : List ℕ) : Type 0 where
  pub clustering : Clustering
  pub run : IsRun program.graph clustering
  pub placement : Placement
  pub merged : IsMerged program.graph (cluster_numbers clustering.clusters) processors placement
  pub plan : Plan
  pub ordered : IsOrdered program.graph placement plan
  pub text : output ≡ gantt_report program placement plan

-- the input stands for a program, and the output is such a text of it
pub record IsTextFor (IsText : ProgramParts → List ℕ → Type 0) (input output : List ℕ) : Type 0 where
  pub program : ProgramParts
  pub stands : StandsFor input program
  pub text : IsText program output

-- the input is a graph text with this first fault
abbrev pub RefusesProgram : List ℕ → Refusal → Type 0
RefusesProgram input (Program fault) = (fault ≢ faults.Memory) × IsFaultOf input fault
RefusesProgram input refusal = ⊥

-- what a command makes of a graph text: such a text of its program, or its refusal
abbrev pub GivesText : (ProgramParts → List ℕ → Type 0) → List ℕ → Result (List ℕ) Refusal → Type 0
GivesText IsText input (Ok output) = IsTextFor IsText input output
GivesText IsText input (Err refusal) = RefusesProgram input refusal

-- the report on an accepted bundle with complete runs of so many steps
abbrev pub check_report : ℕ → List ℕ
check_report steps = codes "accepted\nsteps" ++ 32 ∷ decimal steps ++ codes "\n"

-- the report on a loaded bundle
abbrev pub IsCheckReport : Loads → List ℕ → Type 0
IsCheckReport loaded output = output ≡ check_report loaded.steps

-- what the tasks of a loaded bundle print, run one by one in a topological order
pub record IsRunOutput (loaded : Loads) (output : List ℕ) : Type 0 where
  pub order : List ℕ
  pub ordered : IsOrderOf loaded.bundle 0 order
  pub text : output ≡ bundle_outputs loaded.bundle (printed loaded.bundle 0 order)

-- the input is the text of a bundle that the loader accepts, and the output is such a text of it
pub record IsTextOfLoaded (IsText : Loads → List ℕ → Type 0) (input output : List ℕ) : Type 0 where
  pub loaded : Loads
  pub loads : IsLoadOf input loaded
  pub text : IsText loaded output

-- the loader refuses the input so
abbrev pub RefusesBundle : List ℕ → Refusal → Type 0
RefusesBundle input (Load fault) = (fault ≢ loads.Memory) × IsRefusal input fault
RefusesBundle input refusal = ⊥

-- what a command makes of a bundle text: such a text of its bundle, or its refusal
abbrev pub GivesLoaded : (Loads → List ℕ → Type 0) → List ℕ → Result (List ℕ) Refusal → Type 0
GivesLoaded IsText input (Ok output) = IsTextOfLoaded IsText input output
GivesLoaded IsText input (Err refusal) = RefusesBundle input refusal

-- the figures of the generated graph of so many tasks, compiled for so many processors
pub record IsSummaryText (tasks processors : ℕ) (output : List ℕ) : Type 0 where
  pub summary : Summary
  pub is : IsSummary tasks processors summary
  pub text : output ≡ summary_text summary

-- what `verify-make` gives: this text
abbrev pub GivesSummary : ℕ → ℕ → Result (List ℕ) Refusal → Type 0
GivesSummary tasks processors (Ok output) = IsSummaryText tasks processors output
GivesSummary tasks processors (Err refusal) = ⊥

-- what a command gives for an input within the limit: its output, or its refusal
abbrev pub Gives : Command → List ℕ → Result (List ℕ) Refusal → Type 0
Gives Seq input given = GivesText IsPrinted input given
Gives Cluster input given = GivesText IsClusterReport input given
Gives (Compile processors) input given = GivesText (IsBundleText processors) input given
Gives (Gantt processors) input given = GivesText (IsGanttReport processors) input given
Gives Check input given = GivesLoaded IsCheckReport input given
Gives Run input given = GivesLoaded IsRunOutput input given
Gives (Make tasks) input given = given ≡ Ok (program_text (layered_program tasks))
Gives (VerifyMake tasks processors) input given = GivesSummary tasks processors given

-- a command refuses the input so, or memory ran out
abbrev pub Refuses : Command → List ℕ → Refusal → Type 0
Refuses command input Memory = ⊤
Refuses command input (Program fault) =
    IsTrue (reads_graph command) × Gives command input (Err (Program fault))
Refuses command input (Load fault) =
    IsTrue (reads_bundle command) × Gives command input (Err (Load fault))
Refuses command input refusal = ⊥

-- the defined answer of a command to an input: what it gives, and above the limit the refusal for that
pub record Answers (command : Command) (input : List ℕ) (given : Result (List ℕ) Refusal) : Type 0 where
  pub within : length input ≤ INPUT → Gives command input given
  pub above : INPUT < length input → given ≡ Err too_long

-- where the input of a command is told, its defined answer is such
abbrev pub IsGiven : Command → Option (List ℕ) → (Result (List ℕ) Refusal → Type 0) → Type 0
IsGiven command left IsSuch =
    IfSome (input_of command left) (λ input. (given : Result (List ℕ) Refusal) × Answers command input given × IsSuch given)

-- the words are a command, and where its input is told, the defined answer is such
pub record IsAnswered (words : List (List ℕ)) (left : Option (List ℕ)) (IsSuch : Result (List ℕ) Refusal → Type 0) : Type 0 where
  pub command : Command
  pub spelled : Spells words command
  pub answer : IsGiven command left IsSuch
