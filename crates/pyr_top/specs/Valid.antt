-- The valid inputs of each command: those for which its defined answer is an output.
use Rattle.std.specs.Prelude.{⊤, ℕ, ◌≤◌, List, length}
use Rattle.pyr_num.specs.declared.limits.TheConstants.Limits.{INPUT}
use Rattle.pyr_graphtext.specs.Program.{ProgramParts}
use Rattle.pyr_graphtext.specs.Answer.{StandsFor}
use Rattle.pyr_machine.specs.Good.{Loads}
use Rattle.pyr_loader.specs.Answer.{IsLoadOf}
use Rattle.pyr_top.specs.declared.command.Command.{Command}
use Rattle.pyr_top.specs.declared.command.Command.TheVariants.{Seq, Cluster, Compile, Gantt, Check, Run, Make, VerifyMake}

-- a graph text that stands for a program
pub record IsGraphText (input : List ℕ) : Type 0 where
  pub program : ProgramParts
  pub stands : StandsFor input program

-- the text of a lawful bundle within the limits of which a complete run exists
pub record IsGoodBundleText (input : List ℕ) : Type 0 where
  pub loaded : Loads
  pub loads : IsLoadOf input loaded

-- the input stands for what the command asks for
abbrev pub IsFit : Command → List ℕ → Type 0
IsFit Seq input = IsGraphText input
IsFit Cluster input = IsGraphText input
IsFit (Compile processors) input = IsGraphText input
IsFit (Gantt processors) input = IsGraphText input
IsFit Check input = IsGoodBundleText input
IsFit Run input = IsGoodBundleText input
IsFit (Make tasks) input = ⊤
IsFit (VerifyMake tasks processors) input = ⊤

-- the input is valid: within the limit, and fit for the command
pub record IsValid (command : Command) (input : List ℕ) : Type 0 where
  pub within : length input ≤ INPUT
  pub fit : IsFit command input
