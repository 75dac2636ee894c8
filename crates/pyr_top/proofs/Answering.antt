-- What is so of the defined answer of a command, and how a call ends by it.
use Rattle.std.proofs.Common.{◌≡◌, ◌≢◌, ◌⊎◌, ◌≤◌, inl, inr, ℕ, List, Option, Some, None, Result, Ok, Err, IfSome, IfOk, IfErr, IsOkAnd, IsTrue, length, refl, sym, ap, subst, arith}
use Rattle.std.specs.Global.{Vec}
use Rattle.std.specs.Io.KnownBytes.{Appends}
use Rattle.pyr_port.specs.Calls.{SourceCall, SinkCall}
use Rattle.pyr_num.specs.declared.limits.TheConstants.Limits.{INPUT}
use Rattle.pyr_graphtext.specs.declared.program_fault.ProgramFault.{ProgramFault}
use Rattle.pyr_graphtext.specs.declared.program_fault.ProgramFault.TheVariants as faults
use Rattle.pyr_loader.specs.declared.load_fault.LoadFault.{LoadFault}
use Rattle.pyr_loader.specs.declared.load_fault.LoadFault.TheVariants as loads
use Rattle.pyr_top.specs.declared.command.Command.{Command}
use Rattle.pyr_top.specs.declared.command.Command.TheVariants.{Seq, Cluster, Compile, Gantt, Check, Run, Make, VerifyMake}
use Rattle.pyr_top.specs.declared.refusal.Refusal.{Refusal}
use Rattle.pyr_top.specs.declared.refusal.Refusal.TheVariants.{Usage, Source, Sink, Memory, TooLong, Program, Load}
use Rattle.pyr_top.specs.declared.status.Status.TheVariants as statuses
use Rattle.pyr_top.specs.Commands.{input_of, reads_graph, reads_bundle, Spells}
use Rattle.pyr_top.specs.Refusals.{status_of}
use Rattle.pyr_top.specs.Headline.{Promises, KeepsPromise}
use Rattle.pyr_top.specs.Answers.{Refuses, Gives, Answers, IsGiven, IsAnswered}
use Rattle.pyr_top.specs.Endings.{Delivers, Cause, EndsAs, IsComplete, EndsWell, IsCompleteWhereValid}
use Rattle.pyr_top.specs.Responding.{IsInput, CauseOf, LeavesSource, IsOutput}
use Rattle.pyr_top.proofs.OneCommand.{one_command}
use Rattle.pyr_top.proofs.OneAnswer.{one_answer}
use Rattle.pyr_top.proofs.ValidLemmas.{valid_or_refused}

pub map_some : {A : Type 0} (o : Option A) (P Q : A → Type 0) → ((x : A) → P x → Q x) → IfSome o P → IfSome o Q
map_some None P Q each h = tt
map_some (Some x) P Q each h = each x h

all_some : {A : Type 0} (o : Option A) (P : A → Type 0) → ((x : A) → P x) → IfSome o P
all_some None P each = tt
all_some (Some x) P each = each x

-- a fault of a graph text, and one of a bundle text, that a command gives is no want of memory
fault_given : (command : Command) (bytes : List ℕ) (fault : ProgramFault) → IsTrue (reads_graph command) → Gives command bytes (Err (Program fault)) → fault ≢ faults.Memory
fault_given Seq bytes fault reads gives = gives.0
fault_given Cluster bytes fault reads gives = gives.0
fault_given (Compile processors) bytes fault reads gives = gives.0
fault_given (Gantt processors) bytes fault reads gives = gives.0
fault_given Check bytes fault reads gives = absurd gives
fault_given Run bytes fault reads gives = absurd gives
fault_given (Make tasks) bytes fault reads gives = absurd (cc)
fault_given (VerifyMake tasks processors) bytes fault reads gives = absurd gives

load_fault_given : (command : Command) (bytes : List ℕ) (fault : LoadFault) → IsTrue (reads_bundle command) → Gives command bytes (Err (Load fault)) → fault ≢ loads.Memory
load_fault_given Seq bytes fault reads gives = absurd gives
load_fault_given Cluster bytes fault reads gives = absurd gives
load_fault_given (Compile processors) bytes fault reads gives = absurd gives
load_fault_given (Gantt processors) bytes fault reads gives = absurd gives
load_fault_given Check bytes fault reads gives = gives.0
load_fault_given Run bytes fault reads gives = gives.0
load_fault_given (Make tasks) bytes fault reads gives = absurd (cc)
load_fault_given (VerifyMake tasks processors) bytes fault reads gives = absurd gives

-- what a command gives for its input, once that was read
module _ (command : Command) (left : Option (List ℕ)) (read : Vec ℕ) (bytes : List ℕ) (same : bytes ≡ read.items) (is_read : IsInput command left read.items) (fits : length bytes ≤ INPUT) where
  is_input : IsInput command left bytes
  is_input = subst (λ (b : List ℕ). IsInput command left b) (sym same) is_read

  -- is its defined answer
  is_given : (given : Result (List ℕ) Refusal) → Gives command bytes given → IsGiven command left (λ answer. answer ≡ given)
  is_given given gives =
      map_some (input_of command left) (λ input. input ≡ bytes) _
      (λ input equal. (
        given,
        record {
          within = λ within. subst (λ (i : List ℕ). Gives command i given) (sym equal) gives;
          above = λ above. absurd (let e : length input ≡ length bytes = ap (λ (i : List ℕ). length i) equal in omega (arith, e, above, fits));
        },
        refl,
      )) is_input

  is_output : (output : List ℕ) → Gives command bytes (Ok output) → Promises command bytes output → IsOutput command left output
  is_output output gives promised =
      record {
        given = is_given (Ok output) gives;
        safe =
            map_some (input_of command left) (λ input. input ≡ bytes) _
            (λ input equal. subst (λ (i : List ℕ). Promises command i output) (sym equal) promised) is_input;
      }

  -- an output, with all that is promised of it,
  pub gives_output : (given : Result (Vec ℕ) Refusal) → IfOk given (λ output. Gives command bytes (Ok output.items)) → IfOk given (λ output. Promises command bytes output.items) → IfOk given (λ output. IsOutput command left output.items)
  gives_output (Ok output) gives promised = is_output output.items gives promised
  gives_output (Err refusal) gives promised = tt

-- or a refusal, with its cause
module _ (command : Command) (source : SourceCall) (read : Vec ℕ) (bytes : List ℕ) (same : bytes ≡ read.items) (is_read : IsInput command source.left read.items) (fits : length bytes ≤ INPUT) where
  cause_given : (refusal : Refusal) → Refuses command bytes refusal → CauseOf command source refusal
  cause_given Usage refuses = absurd refuses
  cause_given Source refuses = absurd refuses
  cause_given Sink refuses = absurd refuses
  cause_given Memory refuses = tt
  cause_given TooLong refuses = absurd refuses
  cause_given (Program fault) (reads, gives) = (fault_given command bytes fault reads gives, reads, is_given command source.left read bytes same is_read fits (Err (Program fault)) gives)
  cause_given (Load fault) (reads, gives) = (load_fault_given command bytes fault reads gives, reads, is_given command source.left read bytes same is_read fits (Err (Load fault)) gives)

  pub leaves_source : (given : Result (Vec ℕ) Refusal) → LeavesSource {A = Vec ℕ} command source (Ok read) → IfErr given (Refuses command bytes) → LeavesSource command source given
  leaves_source (Ok output) left refuses = record { unread = left.unread; end = left.end; refused = tt; refused_at_end = tt }
  leaves_source (Err refusal) left refuses = record { unread = left.unread; end = tt; refused = cause_given refusal refuses; refused_at_end = λ tells. left.end }

-- what is so of the defined answer, at the command that the words spell
module _ (words : List (List ℕ)) (left : Option (List ℕ)) (P : Result (List ℕ) Refusal → Type 0) (answered : IsAnswered words left P) (command : Command) (spelled : Spells words command) where
  so_here : IsGiven command left P
  so_here =
      subst (λ (c : Command). IsGiven c left P)
      (one_command words answered.command command answered.spelled spelled) answered.answer

-- what is so of the defined answer is so of each one
so_of_each : (command : Command) (left : Option (List ℕ)) (P Q : Result (List ℕ) Refusal → Type 0) → ((given : Result (List ℕ) Refusal) → P given → Q given) → IsGiven command left P
    → IfSome (input_of command left) (λ input. (given : Result (List ℕ) Refusal) → Answers command input given → Q given)
so_of_each command left P Q each so =
    map_some (input_of command left) _ (λ input. (given : Result (List ℕ) Refusal) → Answers command input given → Q given)
    (λ input found given answers. each given (subst P (one_answer command input found.0 given found.1 answers) found.2)) so

-- where nothing failed, a refusal is the defined answer or tells want of memory
defined_or_memory : (words : List (List ℕ)) (source : SourceCall) (out : SinkCall) (refusal : Refusal) → Cause words source out refusal → (source.failed → ⊥) → (out.failed → ⊥) → (command : Command) → Spells words command
    → IsGiven command source.left (λ given. given ≡ Err refusal) ⊎ (refusal ≡ Memory)
defined_or_memory words source out Usage cause no_source no_out command spelled = absurd (cause command spelled)
defined_or_memory words source out Source cause no_source no_out command spelled = absurd (no_source cause.1)
defined_or_memory words source out Sink cause no_source no_out command spelled = absurd (no_out cause)
defined_or_memory words source out Memory cause no_source no_out command spelled = inr refl
defined_or_memory words source out TooLong cause no_source no_out command spelled = inl (so_here words source.left _ cause.1 command spelled)
defined_or_memory words source out (Program fault) cause no_source no_out command spelled = inl (so_here words source.left _ cause.2 command spelled)
defined_or_memory words source out (Load fault) cause no_source no_out command spelled = inl (so_here words source.left _ cause.2 command spelled)

-- a call that delivered its output
module _ (words : List (List ℕ)) (left : Option (List ℕ)) (out : SinkCall) (delivered : Delivers words left (Appends out.written out.written_after)) where
  ended_as : (given : Result (List ℕ) Refusal) → IsOkAnd given (Appends out.written out.written_after) → EndsAs out statuses.Ok given ⊎ (statuses.Ok ≡ statuses.Memory)
  ended_as (Ok output) appended = inl (refl, appended)
  ended_as (Err refusal) appended = absurd appended

  ended_well : (command : Command) (input : List ℕ) (given : Result (List ℕ) Refusal) → Answers command input given → IsOkAnd given (Appends out.written out.written_after) → EndsWell command input out statuses.Ok
  ended_well command input (Ok output) answers appended = record { status = refl; output = output; defined = answers; appended = appended }
  ended_well command input (Err refusal) answers appended = absurd appended

  pub complete_fine : IsComplete words left out statuses.Ok
  complete_fine command spelled = so_of_each command left _ _ ended_as (so_here words left _ delivered command spelled)

  pub valid_fine : IsCompleteWhereValid words left out statuses.Ok
  valid_fine command spelled =
      map_some (input_of command left) _ _ (λ input found valid. inl (ended_well command input found.0 found.1 found.2))
      (so_here words left _ delivered command spelled)

-- a call that was refused, where nothing failed
module _ (words : List (List ℕ)) (source : SourceCall) (out : SinkCall) (refusal : Refusal) (cause : Cause words source out refusal) (no_source : source.failed → ⊥) (no_out : out.failed → ⊥) where
  pub complete_refused : IsComplete words source.left out (status_of refusal)
  complete_refused command spelled =
      elim (defined_or_memory words source out refusal cause no_source no_out command spelled) [
        | inl defined ↦ so_of_each command source.left _ _ (λ given is. inl (subst (EndsAs out (status_of refusal)) (sym is) refl)) defined
        | inr memory ↦ all_some (input_of command source.left) _ (λ input given answers. inr (ap status_of memory))
      ]

  pub valid_refused : IsCompleteWhereValid words source.left out (status_of refusal)
  valid_refused command spelled =
      elim (defined_or_memory words source out refusal cause no_source no_out command spelled) [
        | inl defined ↦ map_some (input_of command source.left) _ _ (λ input found valid. absurd (valid_or_refused command input found.0 refusal valid found.1 found.2)) defined
        | inr memory ↦ all_some (input_of command source.left) _ (λ input valid. inr (ap status_of memory))
      ]

-- what is so of the defined answer, where something else is
pub answered_so : (words : List (List ℕ)) (left : Option (List ℕ)) (P Q : Result (List ℕ) Refusal → Type 0) → ((given : Result (List ℕ) Refusal) → P given → Q given) → IsAnswered words left P → IsAnswered words left Q
answered_so words left P Q each answered =
    record {
      command = answered.command;
      spelled = answered.spelled;
      answer = map_some (input_of answered.command left) _ _ (λ input found. (found.0, found.1, each found.0 found.2)) answered.answer;
    }

-- what is said of a command is so for the words that spell it: its output, written so,
module _ (words : List (List ℕ)) (source : SourceCall) (out : SinkCall) (command : Command) (spelled : Spells words command) where
  pub delivers : (output : List ℕ) (IsWritten : List ℕ → Type 0) → IsOutput command source.left output → IsWritten output → Delivers words source.left IsWritten
  delivers output IsWritten is written =
      record {
        command = command;
        spelled = spelled;
        answer =
            map_some (input_of command source.left) _ _
            (λ input found. (found.0, found.1, subst (λ (answer : Result (List ℕ) Refusal). IsOkAnd answer IsWritten) (sym found.2) written)) is.given;
      }

  -- what is promised of it,
  pub keeps_promise : (output : List ℕ) → IsOutput command source.left output → Appends out.written out.written_after output → KeepsPromise words source.left out
  keeps_promise output is written =
      record {
        command = command;
        spelled = spelled;
        kept = map_some (input_of command source.left) _ _ (λ input holds. (output, written, holds)) is.safe;
      }

  -- and the cause of a refusal
  pub cause_of : (refusal : Refusal) → CauseOf command source refusal → Cause words source out refusal
  cause_of Usage cause = absurd cause
  cause_of Source cause = (record { command = command; spelled = spelled; input = cause.0 }, cause.1)
  cause_of Sink cause = absurd cause
  cause_of Memory cause = tt
  cause_of TooLong cause = (record { command = command; spelled = spelled; input = cause.0 }, record { command = command; spelled = spelled; answer = cause.1 })
  cause_of (Program fault) cause = (cause.0, record { command = command; spelled = spelled; graph = cause.1 }, record { command = command; spelled = spelled; answer = cause.2 })
  cause_of (Load fault) cause = (cause.0, record { command = command; spelled = spelled; bundle = cause.1 }, record { command = command; spelled = spelled; answer = cause.2 })
