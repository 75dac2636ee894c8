-- What the parts of a call give to one another, for private contracts alone.
use Rattle.std.specs.Prelude.{◌≡◌, ◌≢◌, ◌⊎◌, ⊤, ◌≤◌, List, ℕ, Option, Result, Ok, Err, IfSome, IfErr, OnOk, IsTrue, length}
use Rattle.std.specs.Global.{Vec}
use Rattle.std.specs.Io.KnownBytes.{Appends, IsAtEnd}
use Rattle.pyr_num.specs.declared.limits.TheConstants.Limits.{INPUT}
use Rattle.pyr_port.specs.Giving.{AppendsPrefix}
use Rattle.pyr_port.specs.Calls.{SourceCall, SinkCall}
use Rattle.pyr_graphtext.specs.declared.program_fault.ProgramFault.TheVariants as faults
use Rattle.pyr_loader.specs.declared.load_fault.LoadFault.TheVariants as loads
use Rattle.pyr_top.specs.declared.command.Command.{Command}
use Rattle.pyr_top.specs.declared.refusal.Refusal.{Refusal}
use Rattle.pyr_top.specs.declared.refusal.Refusal.TheVariants.{Usage, Source, Sink, Memory, TooLong, Program, Load}
use Rattle.pyr_top.specs.declared.status.Status.{Status}
use Rattle.pyr_top.specs.declared.status.Status.TheVariants.{Ok as Fine}
use Rattle.pyr_top.specs.Commands.{has_input, reads_graph, reads_bundle, input_of}
use Rattle.pyr_bundle.specs.Values.{IsOrderOf, printed}
use Rattle.pyr_machine.specs.Good.{Loads}
use Rattle.pyr_top.specs.OutputsText.{bundle_outputs}
use Rattle.pyr_top.specs.Answers.{IsGiven}
use Rattle.pyr_top.specs.Refusals.{status_of}
use Rattle.pyr_top.specs.Headline.{Promises}
use Rattle.pyr_top.specs.Endings.{IsTold, tells_of_input}

-- these bytes are the input of the command, where that is told
abbrev pub IsInput : Command → Option (List ℕ) → List ℕ → Type 0
IsInput command left bytes = IfSome (input_of command left) (λ input. input ≡ bytes)

-- the cause why a command gives no output
abbrev pub CauseOf : Command → SourceCall → Refusal → Type 0
CauseOf command source Usage = ⊥
CauseOf command source Source = IsTrue (has_input command) × source.failed
CauseOf command source Sink = ⊥
CauseOf command source Memory = ⊤
CauseOf command source TooLong =
    IsTrue (has_input command) × IsGiven command source.left (λ given. given ≡ Err TooLong)
CauseOf command source (Program fault) =
    (fault ≢ faults.Memory) × IsTrue (reads_graph command)
    × IsGiven command source.left (λ given. given ≡ Err (Program fault))
CauseOf command source (Load fault) =
    (fault ≢ loads.Memory) × IsTrue (reads_bundle command)
    × IsGiven command source.left (λ given. given ≡ Err (Load fault))

-- where the command has an input within the limit, it was read to its end
abbrev pub ReachesEnd : Command → SourceCall → Type 0
ReachesEnd command source =
    IsTrue (has_input command) → IfSome source.left (λ input. length input ≤ INPUT → IsAtEnd source.left_after)

-- what a command makes of its source until it has this, or a refusal
pub record LeavesSource {A : Type 0} (command : Command) (source : SourceCall)
    (outcome : Result A Refusal) : Type 0 where
  pub unread : ¬ IsTrue (has_input command) → source.is_same
  pub end : OnOk outcome (ReachesEnd command source)
  pub refused : IfErr outcome (CauseOf command source)
  pub refused_at_end : IfErr outcome (λ refusal. IsTrue (tells_of_input (status_of refusal))
      → ReachesEnd command source)

-- the output is the defined one of the command, and all that is promised of it holds
pub record IsOutput (command : Command) (left : Option (List ℕ)) (output : List ℕ) : Type 0 where
  pub given : IsGiven command left (λ given. given ≡ Ok output)
  pub safe : IfSome (input_of command left) (λ input. Promises command input output)

-- the output was written; or a prefix of it, where the sink failed, and that was told
abbrev pub IsWritten : List ℕ → SinkCall → SinkCall → Status → Type 0
IsWritten output out err ended =
    ((ended ≡ Fine) × Appends out.written out.written_after output × err.is_same)
    ⊎ (out.failed × AppendsPrefix out.written out.written_after output × IsTold Sink err ended)

-- what a command gave was delivered: its output written, or its refusal told
abbrev pub IsDelivered : Result (Vec ℕ) Refusal → SinkCall → SinkCall → Status → Type 0
IsDelivered (Ok output) out err ended = IsWritten output.items out err ended
IsDelivered (Err refusal) out err ended = out.is_same × IsTold refusal err ended

-- this is what the tasks of a loaded bundle print, run one by one in any topological order
abbrev pub IsPrintedBy : Loads → List ℕ → Type 0
IsPrintedBy loaded output =
    (order : List ℕ) → IsOrderOf loaded.bundle 0 order
    → output ≡ bundle_outputs loaded.bundle (printed loaded.bundle 0 order)
