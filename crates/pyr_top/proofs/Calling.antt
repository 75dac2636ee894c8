-- The fields of a call, out of what is said of its parts.
use Rattle.std.proofs.Common.{◌≡◌, ◌⊎◌, true, false, inl, inr, ℕ, List, Result, Ok, Err, IfOk, IsTrue, refl, sym, ap, subst, ◌∙◌}
use Rattle.std.specs.Global.{Vec}
use Rattle.std.specs.Io.KnownBytes.{Appends}
use Rattle.pyr_port.specs.Giving.{AppendsPrefix}
use Rattle.pyr_port.specs.Calls.{SourceCall, SinkCall}
use Rattle.pyr_top.specs.declared.command.Command.{Command}
use Rattle.pyr_top.specs.declared.refusal.Refusal.{Refusal}
use Rattle.pyr_top.specs.declared.refusal.Refusal.TheVariants.{Usage, Source, Sink, Memory, TooLong, Program, Load}
use Rattle.pyr_top.specs.declared.status.Status as status
use Rattle.pyr_top.specs.declared.status.Status.TheVariants as statuses
use Rattle.pyr_graphtext.specs.declared.program_fault.ProgramFault.TheVariants as faults
use Rattle.pyr_loader.specs.declared.load_fault.LoadFault.TheVariants as loads
use Rattle.pyr_top.specs.Commands.{has_input, spelling, Spells, NoCommand, ReadsInput}
use Rattle.pyr_top.specs.Refusals.{status_of, IsToldAs}
use Rattle.pyr_top.specs.Headline.{KeepsPromise}
use Rattle.pyr_top.specs.Answers.{IsAnswered}
use Rattle.pyr_top.specs.Endings.{Delivers, Cause, IsTold, IsComplete, IsCompleteWhereValid, IsReadToEnd, IsRefusedAs, tells_of_input}
use Rattle.pyr_top.specs.Calls.{IsCall}
use Rattle.pyr_top.specs.Responding.{LeavesSource, CauseOf, IsOutput, IsDelivered}
use Rattle.pyr_top.proofs.OneCommand.{one_command}
use Rattle.pyr_top.proofs.Answering.{answered_so, complete_fine, valid_fine, complete_refused, valid_refused, delivers, keeps_promise, cause_of}

untold : false ≡ true → ⊥
untold h = absurd (cc)

-- a refusal whose status tells of the input is the defined answer
refused_by : (words : List (List ℕ)) (source : SourceCall) (out : SinkCall) (refusal : Refusal) → Cause words source out refusal → IsTrue (tells_of_input (status_of refusal)) → IsRefusedAs words source.left (status_of refusal)
refused_by words source out refusal cause tells = by_refusal refusal cause tells
  where
    this : (r : Refusal) → IsAnswered words source.left (λ given. given ≡ Err r) → IsRefusedAs words source.left (status_of r)
    this r answered = answered_so words source.left (λ given. given ≡ Err r) (λ given. (q : Refusal) × (given ≡ Err q) × (status_of r ≡ status_of q)) (λ given is. (r, is, refl)) answered

    by_refusal : (r : Refusal) → Cause words source out r → IsTrue (tells_of_input (status_of r)) → IsRefusedAs words source.left (status_of r)
    by_refusal Usage c t = absurd (untold t)
    by_refusal Source c t = absurd (untold t)
    by_refusal Sink c t = absurd (untold t)
    by_refusal Memory c t = absurd (untold t)
    by_refusal TooLong c t = this TooLong c.1
    by_refusal (Program fault) c t = this (Program fault) c.2
    by_refusal (Load fault) c t = this (Load fault) c.2

-- the refusals that their status tells
abbrev IsKnown : status.Status → Refusal → Type 0
IsKnown statuses.Ok r = ⊥
IsKnown statuses.Usage r = r ≡ Usage
IsKnown statuses.Source r = r ≡ Source
IsKnown statuses.Sink r = r ≡ Sink
IsKnown _ r = Unit {0}

known : (r : Refusal) → IsKnown (status_of r) r
known Usage = refl
known Source = refl
known Sink = refl
known Memory = tt
known TooLong = tt
known (Program (faults.BadText line)) = tt
known (Program (faults.Limit line which)) = tt
known (Program (faults.Names line kind name)) = tt
known (Program faults.NoTask) = tt
known (Program (faults.NoWriter name)) = tt
known (Program (faults.Cycle names)) = tt
known (Program faults.Memory) = tt
known (Load (loads.BadText line)) = tt
known (Load (loads.Limit line which)) = tt
known (Load (loads.Law number a b)) = tt
known (Load (loads.Stuck stops)) = tt
known (Load (loads.Leftover from to d)) = tt
known (Load loads.Memory) = tt

known_by : (r : Refusal) (ended : status.Status) → ended ≡ status_of r → IsKnown ended r
known_by r ended is = subst (λ (s : status.Status). IsKnown s r) (sym is) (known r)

-- a refusal is told as itself, or as want of memory
itself_or_memory : (refusal told : Refusal) → IsToldAs refusal told → (told ≡ refusal) ⊎ (told ≡ Memory)
itself_or_memory Usage told e = inl e
itself_or_memory Source told e = inl e
itself_or_memory Sink told e = inl e
itself_or_memory Memory told e = inl e
itself_or_memory TooLong told e = inl e
itself_or_memory (Program fault) told e = e
itself_or_memory (Load fault) told e = e

module _ (words : List (List ℕ)) (source : SourceCall) (out err : SinkCall) (unread : (ReadsInput words → ⊥) → source.is_same) where
  -- a call that delivered its output
  pub call_fine : (ended : status.Status) → ended ≡ statuses.Ok → (NoCommand words → ⊥) → Delivers words source.left (Appends out.written out.written_after) → KeepsPromise words source.left out → IsReadToEnd words source → err.is_same
      → IsCall words source out err ended
  call_fine ended fine spelled delivered kept end untold =
      subst (IsCall words source out err) (sym fine)
      (record {
        ok = λ e. delivered;
        usage = (λ e. absurd (cc), λ none. absurd (spelled none));
        source_failed = λ e. absurd (cc);
        sink_failed = λ e. absurd (cc);
        input_refused = λ e. absurd (cc);
        complete = λ no_source no_out. complete_fine words source.left out delivered;
        valid = λ no_source no_out. valid_fine words source.left out delivered;
        safe = λ e. kept;
        unread = unread;
        read_to_end = λ e. end;
        nothing = λ no. absurd (no refl);
        prefix = λ e. absurd (cc);
        quiet = λ e. untold;
        told = λ no. absurd (no refl);
      })

  -- a call that told its refusal
  module _ (refusal : Refusal) (ended : status.Status) (is_told : IsTold refusal err ended) (cause : Cause words source out refusal) (usage : NoCommand words → refusal ≡ Usage) (at_end : IsTrue (tells_of_input (status_of refusal)) → IsReadToEnd words source) (nothing : (refusal ≡ Sink → ⊥) → out.is_same) (prefix : refusal ≡ Sink → Delivers words source.left (AppendsPrefix out.written out.written_after)) where
    is : ended ≡ status_of is_told.told
    is = is_told.tells.status

    told_as : (is_told.told ≡ refusal) ⊎ (is_told.told ≡ Memory)
    told_as = itself_or_memory refusal is_told.told is_told.as_

    -- what was told has its cause
    told_cause : Cause words source out is_told.told
    told_cause =
        elim told_as [
          | inl e ↦ subst (Cause words source out) (sym e) cause
          | inr e ↦ subst (Cause words source out) (sym e) tt
        ]

    -- where another refusal than want of memory was told, that is the refusal
    refusal_is : (other : Refusal) → is_told.told ≡ other → (other ≡ Memory → ⊥) → refusal ≡ other
    refusal_is other e no_memory =
        elim told_as [
          | inl same ↦ sym same ∙ e
          | inr memory ↦ absurd (no_memory (sym e ∙ memory))
        ]

    not_fine : ended ≡ statuses.Ok → ⊥
    not_fine e = known_by is_told.told statuses.Ok (sym e ∙ is)

    sunk : ended ≡ statuses.Sink → is_told.told ≡ Sink
    sunk e = known_by is_told.told statuses.Sink (sym e ∙ is)

    fixed : (r : Refusal) → refusal ≡ r → (IsToldAs r is_told.told → is_told.told ≡ r) → is_told.told ≡ r
    fixed r e as_itself = as_itself (subst (λ (q : Refusal). IsToldAs q is_told.told) e is_told.as_)

    told_at_end : (ended ≡ statuses.Ok) ⊎ IsTrue (tells_of_input ended) → IsReadToEnd words source
    told_at_end (inl e) = absurd (not_fine e)
    told_at_end (inr tells) =
        let here : IsTrue (tells_of_input (status_of is_told.told)) = subst (λ (s : status.Status). IsTrue (tells_of_input s)) is tells in
        elim told_as [
          | inl e ↦ at_end (subst (λ (r : Refusal). IsTrue (tells_of_input (status_of r))) e here)
          | inr e ↦ absurd (untold (subst (λ (r : Refusal). IsTrue (tells_of_input (status_of r))) e here))
        ]

    pub call_refused : IsCall words source out err ended
    call_refused =
        record {
          ok = λ e. absurd (not_fine e);
          usage = (λ e. subst (Cause words source out) (known_by is_told.told statuses.Usage (sym e ∙ is)) told_cause, λ none. is ∙ ap status_of (fixed Usage (usage none) (λ e. e)));
          source_failed = λ e. subst (Cause words source out) (known_by is_told.told statuses.Source (sym e ∙ is)) told_cause;
          sink_failed = λ e. subst (Cause words source out) (sunk e) told_cause;
          input_refused = λ tells. subst (IsRefusedAs words source.left) (sym is) (refused_by words source out is_told.told told_cause (subst (λ (s : status.Status). IsTrue (tells_of_input s)) is tells));
          complete = λ no_source no_out. subst (IsComplete words source.left out) (sym is) (complete_refused words source out is_told.told told_cause no_source no_out);
          valid = λ no_source no_out. subst (IsCompleteWhereValid words source.left out) (sym is) (valid_refused words source out is_told.told told_cause no_source no_out);
          safe = λ e. absurd (not_fine e);
          unread = unread;
          read_to_end = told_at_end;
          nothing = λ no_ok no_sink. nothing (λ sink. no_sink (is ∙ ap status_of (fixed Sink sink (λ e. e))));
          prefix = λ e. prefix (refusal_is Sink (sunk e) (λ m. absurd (cc)));
          quiet = λ e. absurd (not_fine e);
          told = λ no_ok. record { refusal = is_told.told; cause = told_cause; tells = is_told.tells };
        }

-- a call whose words are no command
pub call_unknown : (words : List (List ℕ)) (source : SourceCall) (out err : SinkCall) (ended : status.Status) → NoCommand words → source.is_same → out.is_same → IsTold Usage err ended → IsCall words source out err ended
call_unknown words source out err ended none unread nothing told =
    call_refused words source out err (λ no. unread) Usage ended told none (λ no. refl) (λ tells. absurd (untold tells)) (λ no. nothing) (λ sink. absurd (cc))

-- a call for the words of a command, made with other words for it
pub call_spelled : (words : List (List ℕ)) (command : Command) (source : SourceCall) (out err : SinkCall) (ended : status.Status) → Spells words command → IsCall (spelling command) source out err ended → IsCall words source out err ended
call_spelled words command source out err ended spelled call = subst (λ (w : List (List ℕ)). IsCall w source out err ended) (sym spelled.text) call

-- a call that delivered what its command gave
module _ (words : List (List ℕ)) (source : SourceCall) (out err : SinkCall) (command : Command) (spelled : Spells words command) where
  is_a_command : NoCommand words → ⊥
  is_a_command none = none command spelled

  reads : IsTrue (has_input command) → ReadsInput words
  reads input = record { command = command; spelled = spelled; input = input }

  has_it : ReadsInput words → IsTrue (has_input command)
  has_it asks = subst (λ (c : Command). IsTrue (has_input c)) (one_command words asks.command command asks.spelled spelled) asks.input

  pub call_delivered : (given : Result (Vec ℕ) Refusal) (ended : status.Status) → IfOk given (λ output. IsOutput command source.left output.items) → LeavesSource command source given → IsDelivered given out err ended → IsCall words source out err ended
  call_delivered (Ok output) ended output_is left (inl (fine, written, quiet)) =
      call_fine words source out err (λ no. left.unread (λ input. no (reads input))) ended fine is_a_command (delivers words source out command spelled output.items _ output_is written)
      (keeps_promise words source out command spelled output.items output_is written) (λ asks. left.end (has_it asks)) quiet
  call_delivered (Ok output) ended output_is left (inr (failed, written, told)) =
      call_refused words source out err (λ no. left.unread (λ input. no (reads input))) Sink ended told failed (λ none. absurd (is_a_command none))
      (λ tells. absurd (untold tells)) (λ no. absurd (no refl)) (λ sink. delivers words source out command spelled output.items _ output_is written)
  call_delivered (Err refusal) ended output_is left (nothing, told) =
      call_refused words source out err (λ no. left.unread (λ input. no (reads input))) refusal ended told (cause_of words source out command spelled refusal left.refused) (λ none. absurd (is_a_command none))
      (λ tells asks. left.refused_at_end tells (has_it asks)) (λ no. nothing) (λ sink. absurd (subst (CauseOf command source) sink left.refused))
