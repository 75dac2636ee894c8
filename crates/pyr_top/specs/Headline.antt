-- What is promised of the bundles that are compiled, checked and run.
use Rattle.std.specs.Prelude.{◌≡◌, ◌≤◌, ℕ, List, Option, IfSome, length, ⊤}
use Rattle.std.specs.Io.KnownBytes.{Appends}
use Rattle.pyr_num.specs.declared.limits.TheConstants.Limits.{INPUT}
use Rattle.pyr_port.specs.Calls.{SinkCall}
use Rattle.pyr_seq.specs.Sequential.{outputs_of}
use Rattle.pyr_graph.specs.System.{datum_numbers}
use Rattle.pyr_graphtext.specs.Program.{ProgramParts, tasks_of}
use Rattle.pyr_graphtext.specs.Sequential.{IsOrder}
use Rattle.pyr_graphtext.specs.Answer.{StandsFor}
use Rattle.pyr_bundle.specs.Parts.{Parts}
use Rattle.pyr_bundle.specs.Values.{IsOrderOf, printed}
use Rattle.pyr_emit.specs.Meaning.{MeansTheSame}
use Rattle.pyr_machine.specs.Good.{Loads, AreOutputs}
use Rattle.pyr_loader.specs.Answer.{IsLoadOf}
use Rattle.pyr_loader.specs.Safe.{IsSafe, IsInterleaving, IsFinished, reached}
use Rattle.pyr_top.specs.declared.command.Command.{Command}
use Rattle.pyr_top.specs.declared.command.Command.TheVariants.{Compile, Check, Run, VerifyMake}
use Rattle.pyr_top.specs.Commands.{Spells, input_of}
use Rattle.pyr_verify.specs.declared.summary.Summary.{Summary}
use Rattle.pyr_verify.specs.Summary.{IsVerified}
use Rattle.pyr_top.specs.OutputsText.{outputs_text, bundle_outputs}
use Rattle.pyr_top.specs.SummaryText.{summary_text}
use Rattle.pyr_top.specs.Answers.{check_report, IsPrinted, IsRunOutput, IsTextFor, IsTextOfLoaded}

-- The input is the text of a bundle that the loader accepts, and the output tells the steps of its
-- rehearsal. In every interleaving of its processors' steps each unfinished state has an enabled
-- step, no run is longer than the rehearsal, no channel passes its capacity, and the finished outputs
-- are those of the tasks run one by one in any topological order.
pub record IsAccepted (input output : List ℕ) : Type 0 where
  pub loaded : Loads
  pub loads : IsLoadOf input loaded
  pub steps : output ≡ check_report loaded.steps
  pub safe : IsSafe loaded.bundle loaded.steps

-- in each order of the tasks, the lines that a bundle prints in frame 0 are those that the program
-- prints
abbrev pub PrintsTheSame : ProgramParts → Parts → Type 0
PrintsTheSame program b =
    (order : List ℕ) → IsOrderOf b 0 order
    → IsOrder program.graph order
    × (bundle_outputs b (printed b 0 order)
    ≡ outputs_text program
    (outputs_of (tasks_of program 0) order (datum_numbers program.graph.prints)))

-- The output is short enough to be read, and is the text of a bundle that the loader accepts, of which
-- the same holds. In every frame its data have the values that they have in the program.
pub record RunsSafely (program : ProgramParts) (output : List ℕ) : Type 0 where
  pub fits : length output ≤ INPUT
  pub loaded : Loads
  pub loads : IsLoadOf output loaded
  pub safe : IsSafe loaded.bundle loaded.steps
  pub means : MeansTheSame program loaded.bundle
  pub prints : PrintsTheSame program loaded.bundle

-- The input is a graph text, and the output such a text for its program: what `run` prints for this
-- output is what `seq` prints for the input.
pub record CompilesSafely (input output : List ℕ) : Type 0 where
  pub program : ProgramParts
  pub stands : StandsFor input program
  pub runs : RunsSafely program output
  pub prints : (text : List ℕ) → IsTextOfLoaded IsRunOutput output text
      → IsTextFor IsPrinted input text

-- these are the printed data of a finished interleaving of frame 0, as text
pub record IsTextAt (loaded : Loads) (run : List ℕ) (output : List ℕ) : Type 0 where
  pub lists : List (List ℕ)
  pub outputs : AreOutputs loaded.bundle (reached loaded.bundle 0 run) lists
  pub text : output ≡ bundle_outputs loaded.bundle lists

-- The input is the text of a bundle that the loader accepts, of which the same holds. The output is
-- what every finished interleaving prints, and what its tasks print, run one by one in any
-- topological order.
pub record RunsAsTold (input output : List ℕ) : Type 0 where
  pub loaded : Loads
  pub loads : IsLoadOf input loaded
  pub safe : IsSafe loaded.bundle loaded.steps
  pub every_run : (run : List ℕ) → IsInterleaving loaded.bundle 0 run
      → IsFinished loaded.bundle 0 (reached loaded.bundle 0 run) → IsTextAt loaded run output
  pub one_by_one : (order : List ℕ) → IsOrderOf loaded.bundle 0 order
      → output ≡ bundle_outputs loaded.bundle (printed loaded.bundle 0 order)

-- The output is the text of figures that were told of a bundle which the loader accepts, and of
-- which the same holds. In every frame its data have the values that they have in the generated
-- program.
pub record TellsVerified (tasks processors : ℕ) (output : List ℕ) : Type 0 where
  pub summary : Summary
  pub text : output ≡ summary_text summary
  pub verified : IsVerified tasks processors summary

-- what holds where a command gives this output for this input
abbrev pub Promises : Command → List ℕ → List ℕ → Type 0
Promises (Compile processors) input output = CompilesSafely input output
Promises Check input output = IsAccepted input output
Promises Run input output = RunsAsTold input output
Promises (VerifyMake tasks processors) input output = TellsVerified tasks processors output
Promises command input output = ⊤

-- the words are a command, and where its input is told, this holds of it and of what was appended
pub record KeepsPromise (words : List (List ℕ)) (left : Option (List ℕ)) (out : SinkCall)
    : Type 0 where
  pub command : Command
  pub spelled : Spells words command
  pub kept : IfSome (input_of command left) (λ input. (output : List ℕ)
      × Appends out.written out.written_after output × Promises command input output)
