-- Sends whose datum the receiver never receives. No public clause cites this.
use Rattle.std.specs.Prelude.{◌≡◌, ℕ, ◌<◌, ◌≤◌, ◌⊎◌, Bool, true, false, nat_lt, if◌then◌else◌, List, [], length, slice_index_or, slice_set, Option, Some, None}
use Rattle.std.specs.List.{list_any}
use Rattle.pyr_num.specs.declared.ids.ProcId.{ProcId}
use Rattle.pyr_bundle.specs.declared.instr.Instr.{Instr}
use Rattle.pyr_bundle.specs.declared.instr.Instr.TheVariants.{Recv, Exec, Send}
use Rattle.pyr_bundle.specs.Parts.{Parts, datum_count, code_at}
use Rattle.pyr_bundle.specs.WellFormed.{StandsAt}
use Rattle.pyr_machine.specs.Schedule.{is_receive}
use Rattle.pyr_loader.specs.declared.leftover.Unreceived.{Unreceived}
use Rattle.pyr_loader.specs.Leftover.{NotAfter}

-- an instruction of p receives this datum
abbrev pub is_received : Parts → ℕ → ℕ → Bool
is_received b p d = list_any (is_receive d) (code_at b p)

-- the datum that an instruction receives is one of the first n
abbrev pub IsKnown : ℕ → Instr → Type 0
IsKnown n (Recv q d) = d.0 < n
IsKnown n (Exec t) = Unit {0}
IsKnown n (Send to d) = Unit {0}

-- the marks, with one for the datum that an instruction receives
abbrev pub marked_by : Instr → List Bool → List Bool
marked_by (Recv q d) marks = slice_set marks d.0 true
marked_by (Exec t) marks = marks
marked_by (Send to d) marks = marks

-- for each datum, whether p receives it
pub record AreMarks (b : Parts) (p : ℕ) (marks : List Bool) : Type 0 where
  pub count : length marks ≡ datum_count b
  pub each : (d : ℕ) → d < datum_count b → slice_index_or marks d false ≡ is_received b p d

abbrev pub marks_at : List (List Bool) → ℕ → List Bool
marks_at table p = slice_index_or table p []

abbrev pub mark_of : List (List Bool) → ℕ → ℕ → Bool
mark_of table p d = slice_index_or (marks_at table p) d false

-- there is a mark for the datum that an instruction sends, at its receiver
abbrev pub IsMarkable : List (List Bool) → Instr → Type 0
IsMarkable table (Recv q d) = Unit {0}
IsMarkable table (Exec t) = Unit {0}
IsMarkable table (Send to d) = (to.0 < length table) × (d.0 < length (marks_at table to.0))

-- for each of the first n processors and each datum, whether it receives it
pub record AreReceipts (b : Parts) (n : ℕ) (table : List (List Bool)) : Type 0 where
  pub count : length table ≡ n
  pub each : (p : ℕ) → p < n → AreMarks b p (marks_at table p)

-- this send stands in the code, and its datum is never received
pub record IsUnreceived (b : Parts) (s : Unreceived) : Type 0 where
  pub sends : StandsAt b s.from.0 s.place (Send s.to s.datum)
  pub never : is_received b s.to.0 s.datum.0 ≡ false

-- the send that an instruction is, where its datum is never received by this table
abbrev pub unreceived_by : List (List Bool) → ProcId → ℕ → Instr → Option Unreceived
unreceived_by table from place (Recv q d) = None
unreceived_by table from place (Exec t) = None
unreceived_by table from place (Send to d) =
    if mark_of table to.0 d.0 then None
    else Some (record { from = from; to = to; place = place; datum = d })

-- the first of two by receiver, where the one comes before the other in its sender's code
abbrev pub earlier : Unreceived → Unreceived → Unreceived
earlier one later = if nat_lt later.to.0 one.to.0 then later else one

abbrev pub first_of : Option Unreceived → Option Unreceived → Option Unreceived
first_of None later = later
first_of (Some one) None = Some one
first_of (Some one) (Some later) = Some (earlier one later)

-- one comes before the other, or is it, by receiver and then by place
abbrev pub ComesFirst : Unreceived → Unreceived → Type 0
ComesFirst s t = (s.to.0 < t.to.0) ⊎ ((s.to.0 ≡ t.to.0) × (s.place ≤ t.place))

-- t is such a send at one of the first n places of p
pub record IsAmong (b : Parts) (p n : ℕ) (t : Unreceived) : Type 0 where
  pub unreceived : IsUnreceived b t
  pub sender : t.from.0 ≡ p
  pub within : t.place < n

-- the first of those at the first n places of p, if there is one
abbrev pub IsFirstIn : Parts → ℕ → ℕ → Option Unreceived → Type 0
IsFirstIn b p n None = (t : Unreceived) → ¬ IsAmong b p n t
IsFirstIn b p n (Some s) = IsAmong b p n s × ((t : Unreceived) → IsAmong b p n t → ComesFirst s t)

-- the first of all, by sender, receiver and place
pub record IsFirst (b : Parts) (s : Unreceived) : Type 0 where
  pub unreceived : IsUnreceived b s
  pub first : (t : Unreceived) → IsUnreceived b t
      → NotAfter s.from.0 s.to.0 s.place t.from.0 t.to.0 t.place

-- there is none
abbrev pub HasNone : Parts → Type 0
HasNone b = (t : Unreceived) → ¬ IsUnreceived b t
