-- How a call of the program ends by the defined answer: with its output, or with a refusal that has its cause.
use Rattle.std.specs.Prelude.{◌≡◌, ◌≢◌, ◌⊎◌, ℕ, ◌≤◌, Bool, true, false, List, Option, Result, Ok, Err, IfSome, IsOkAnd, length}
use Rattle.std.specs.Io.KnownBytes.{Appends, IsAtEnd}
use Rattle.pyr_num.specs.declared.limits.TheConstants.Limits.{INPUT}
use Rattle.pyr_port.specs.Giving.{AppendsPrefix}
use Rattle.pyr_port.specs.Calls.{SourceCall, SinkCall}
use Rattle.pyr_graphtext.specs.declared.program_fault.ProgramFault.TheVariants as faults
use Rattle.pyr_loader.specs.declared.load_fault.LoadFault.TheVariants as loads
use Rattle.pyr_top.specs.declared.command.Command.{Command}
use Rattle.pyr_top.specs.declared.refusal.Refusal.{Refusal}
use Rattle.pyr_top.specs.declared.refusal.Refusal.TheVariants.{Usage, Source, Sink, Memory, TooLong, Program, Load}
use Rattle.pyr_top.specs.declared.status.Status as status
use Rattle.pyr_top.specs.declared.status.Status.TheVariants as statuses
use Rattle.pyr_top.specs.Commands.{input_of, Spells, NoCommand, ReadsInput, ReadsGraph, ReadsBundle}
use Rattle.pyr_top.specs.Refusals.{status_of, line_of, IsToldAs}
use Rattle.pyr_top.specs.Answers.{Answers, IsAnswered}
use Rattle.pyr_top.specs.Valid.{IsValid}

-- the defined answer is an output, which was written so
abbrev pub Delivers : List (List ℕ) → Option (List ℕ) → (List ℕ → Type 0) → Type 0
Delivers words left IsWritten = IsAnswered words left (λ given. IsOkAnd given IsWritten)

-- the cause of a refusal
abbrev pub Cause : List (List ℕ) → SourceCall → SinkCall → Refusal → Type 0
Cause words source out Usage = NoCommand words
Cause words source out Source = ReadsInput words × source.failed
Cause words source out Sink = out.failed
Cause words source out Memory = Unit {0}
Cause words source out TooLong =
    ReadsInput words × IsAnswered words source.left (λ given. given ≡ Err TooLong)
Cause words source out (Program fault) =
    (fault ≢ faults.Memory) × ReadsGraph words
    × IsAnswered words source.left (λ given. given ≡ Err (Program fault))
Cause words source out (Load fault) =
    (fault ≢ loads.Memory) × ReadsBundle words
    × IsAnswered words source.left (λ given. given ≡ Err (Load fault))

-- the status tells of the input
abbrev pub tells_of_input : status.Status → Bool
tells_of_input statuses.Ok = false
tells_of_input statuses.Usage = false
tells_of_input statuses.Source = false
tells_of_input statuses.Sink = false
tells_of_input statuses.Memory = false
tells_of_input _ = true

-- the defined answer is a refusal with this status
abbrev pub IsRefusedAs : List (List ℕ) → Option (List ℕ) → status.Status → Type 0
IsRefusedAs words left ended = IsAnswered words left (λ given. (refusal : Refusal) × (given ≡ Err refusal) × (ended ≡ status_of refusal))

-- this refusal was told: its status, and a prefix of its line, all of it where `err` didn't fail
pub record Tells (told : Refusal) (err : SinkCall) (ended : status.Status) : Type 0 where
  pub status : ended ≡ status_of told
  pub line : AppendsPrefix err.written err.written_after (line_of told)
  pub whole : Appends err.written err.written_after (line_of told) ⊎ err.failed

-- the refusal was told, or that there was no memory to make its line
pub record IsTold (refusal : Refusal) (err : SinkCall) (ended : status.Status) : Type 0 where
  pub told : Refusal
  pub as_ : IsToldAs refusal told
  pub tells : Tells told err ended

-- the call ended with a refusal, which has its cause and was told
pub record IsRefused (words : List (List ℕ)) (source : SourceCall) (out err : SinkCall)
    (ended : status.Status) : Type 0 where
  pub refusal : Refusal
  pub cause : Cause words source out refusal
  pub tells : Tells refusal err ended

-- the call ended as this defined answer says
abbrev pub EndsAs : SinkCall → status.Status → Result (List ℕ) Refusal → Type 0
EndsAs out ended (Ok output) = (ended ≡ statuses.Ok) × Appends out.written out.written_after output
EndsAs out ended (Err refusal) = ended ≡ status_of refusal

-- where the words are a command and its input is told, the call ended as the defined answer says, or for want of memory
abbrev pub IsComplete : List (List ℕ) → Option (List ℕ) → SinkCall → status.Status → Type 0
IsComplete words left out ended =
    (command : Command)
    → Spells words command
    → IfSome (input_of command left) (λ input. (given : Result (List ℕ) Refusal)
    → Answers command input given
    → EndsAs out ended given ⊎ (ended ≡ statuses.Memory))

-- the defined answer is an output, which was appended, and the status is Ok
pub record EndsWell (command : Command) (input : List ℕ) (out : SinkCall) (ended : status.Status)
    : Type 0 where
  pub status : ended ≡ statuses.Ok
  pub output : List ℕ
  pub defined : Answers command input (Ok output)
  pub appended : Appends out.written out.written_after output

-- where the words are a command and its input is told and valid, the call ended well, or for want of memory
abbrev pub IsCompleteWhereValid : List (List ℕ) → Option (List ℕ) → SinkCall → status.Status → Type 0
IsCompleteWhereValid words left out ended =
    (command : Command)
    → Spells words command
    → IfSome (input_of command left) (λ input. IsValid command input
    → EndsWell command input out ended ⊎ (ended ≡ statuses.Memory))

-- an input within the limit was read to its end
abbrev pub IsReadToEnd : List (List ℕ) → SourceCall → Type 0
IsReadToEnd words source = ReadsInput words → IfSome source.left (λ input. length input ≤ INPUT → IsAtEnd source.left_after)
