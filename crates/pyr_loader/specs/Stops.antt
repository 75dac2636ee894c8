-- Where the processors of a bundle stand when none of them can make a step, and why.
use Rattle.std.specs.Prelude.{◌≡◌, ℕ, zero, suc, ◌<◌, ◌≤◌, ◌⊎◌, true, false, not, List, [], ◌∷◌, ◌++◌, length, Option, Some, None, find, unwrap_or, if◌then◌else◌}
use Rattle.std.specs.List.{list_all}
use Rattle.pyr_num.specs.declared.ids.DatumId.{DatumId}
use Rattle.pyr_num.specs.declared.ids.ProcId.{ProcId}
use Rattle.pyr_num.specs.declared.ids.TaskId.{TaskId}
use Rattle.pyr_net.specs.Net.{World}
use Rattle.pyr_net.specs.Run.{HasNoStep}
use Rattle.pyr_bundle.specs.declared.instr.Instr.{Instr}
use Rattle.pyr_bundle.specs.declared.instr.Instr.TheVariants.{Recv, Exec, Send}
use Rattle.pyr_bundle.specs.Parts.{Parts, processor_count, task_at, datum_id}
use Rattle.pyr_machine.specs.Machine.{LocalState, tag_rules, capacity_of, instr_at, holds, datum_tag}
use Rattle.pyr_loader.specs.declared.stop.Stop.{Stop}
use Rattle.pyr_loader.specs.declared.stop.Reason.{Reason}
use Rattle.pyr_loader.specs.declared.stop.Reason.TheVariants.{Ended, Empty, Full, Lacks}

-- the first of these data that is not in the store, if one is not
abbrev pub first_missing : List DatumId → List DatumId → Option DatumId
first_missing store ds = find (λ d. not (holds datum_tag d.0 store)) ds

-- Why a processor that has no step has none at this instruction. An execution has a missing datum
-- then, so that datum 0 is told for none.
abbrev pub reason_at : Parts → LocalState DatumId → Option Instr → Reason
reason_at b l None = Ended
reason_at b l (Some (Recv from d)) = Empty from
reason_at b l (Some (Exec t)) =
    Lacks (unwrap_or (first_missing l.store (task_at b t.0).reads) (datum_id 0))
reason_at b l (Some (Send to d)) = if holds datum_tag d.0 l.store then Full to else Lacks d

-- where processor p stands, and why it has no step there
abbrev pub stop_of : Parts → World (LocalState DatumId) DatumId → ℕ → Stop
stop_of b z p =
    record {
      place = (z.locals p).place;
      reason = reason_at b (z.locals p) (instr_at b p (z.locals p));
    }

-- the stops of the first n processors
abbrev pub stops_below : Parts → World (LocalState DatumId) DatumId → ℕ → List Stop
stops_below b z zero = []
stops_below b z (suc n) = stops_below b z n ++ stop_of b z n ∷ []

-- the stops of all processors, in order
abbrev pub stops_of : Parts → World (LocalState DatumId) DatumId → List Stop
stops_of b z = stops_below b z (processor_count b)

-- d is the first of these data that is not in the store
pub record IsFirstMissing (store ds : List DatumId) (d : DatumId) : Type 0 where
  pub before : List DatumId
  pub after : List DatumId
  pub parts : ds ≡ before ++ d ∷ after
  pub there : list_all (λ e. holds datum_tag e.0 store) before ≡ true
  pub missing : holds datum_tag d.0 store ≡ false

-- what a reason says of processor p: it is at its code's end
abbrev pub HasEnded : Parts → World (LocalState DatumId) DatumId → ℕ → Type 0
HasEnded b z p = instr_at b p (z.locals p) ≡ None

-- or it is to receive a datum that is not in its stash, and the channel is empty
pub record WaitsFor (b : Parts) (z : World (LocalState DatumId) DatumId) (p : ℕ) (from : ProcId)
    : Type 0 where
  pub datum : DatumId
  pub next : instr_at b p (z.locals p) ≡ Some (Recv from datum)
  pub absent : holds datum_tag datum.0 (z.locals p).stash ≡ false
  pub empty : z.lists from.0 p ≡ []

-- or it is to send a datum that is in its store, and the channel is full
pub record HasNoRoom (b : Parts) (z : World (LocalState DatumId) DatumId) (p : ℕ) (to : ProcId)
    : Type 0 where
  pub datum : DatumId
  pub next : instr_at b p (z.locals p) ≡ Some (Send to datum)
  pub there : holds datum_tag datum.0 (z.locals p).store ≡ true
  pub full : capacity_of b p to.0 ≤ length (z.lists p to.0)

-- or it is to execute a task, of whose reads this datum is the first that is missing
pub record LacksRead (b : Parts) (z : World (LocalState DatumId) DatumId) (p : ℕ) (d : DatumId)
    : Type 0 where
  pub task : TaskId
  pub next : instr_at b p (z.locals p) ≡ Some (Exec task)
  pub first : IsFirstMissing (z.locals p).store (task_at b task.0).reads d

-- or it is to send this datum, which is not in its store
pub record LacksSent (b : Parts) (z : World (LocalState DatumId) DatumId) (p : ℕ) (d : DatumId)
    : Type 0 where
  pub to : ProcId
  pub next : instr_at b p (z.locals p) ≡ Some (Send to d)
  pub missing : holds datum_tag d.0 (z.locals p).store ≡ false

abbrev pub IsReason : Parts → World (LocalState DatumId) DatumId → ℕ → Reason → Type 0
IsReason b z p Ended = HasEnded b z p
IsReason b z p (Empty from) = WaitsFor b z p from
IsReason b z p (Full to) = HasNoRoom b z p to
IsReason b z p (Lacks d) = LacksRead b z p d ⊎ LacksSent b z p d

-- where no processor can make a step, each has the reason that is told
abbrev pub ReasonsAreTrue : Type 0
ReasonsAreTrue =
    (b : Parts) (z : World (LocalState DatumId) DatumId) (p : ℕ) → p < processor_count b
    → HasNoStep (tag_rules b) z → IsReason b z p (stop_of b z p).reason
