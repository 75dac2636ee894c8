-- The ends of all processors, when each channel has its wire.
use Rattle.std.specs.Prelude.{◌≡◌, ℕ, ◌<◌, List, [], length}
use Rattle.pyr_num.specs.declared.ids.ProcId.{ProcId}
use Rattle.pyr_num.specs.declared.parcel.Parcel.{Parcel}
use Rattle.pyr_wire.specs.End.{End, end_at}
use Rattle.pyr_bundle.specs.Parts.{proc_id}
use Rattle.pyr_bundle.specs.declared.capacity.Capacity.{Capacity}
use Rattle.pyr_machine.specs.Machine.{capacity_in}
use Rattle.pyr_ends.specs.Ends.{end_for}
use Rattle.pyr_ends.specs.declared.ends.Ends.{Ends}

-- the channel is between two of so many processors, and holds at least one parcel
abbrev pub IsBetween : ℕ → Capacity → Type 0
IsBetween processors c = (c.from.0 < processors) × (c.to.0 < processors) × (0 < c.capacity)

-- where there is no channel, there is nothing to carry
abbrev pub Covers : ℕ → (ProcId → ProcId → List Parcel) → List Capacity → Type 0
Covers processors feed channels =
    (p q : ℕ) → p < processors → q < processors → capacity_in channels p q ≡ 0
    → feed (proc_id p) (proc_id q) ≡ []

-- an end at its start: of the wire from p to q, for its list and with the capacity of its channel.
-- Where there is no channel, this is the idle end
abbrev pub start_of : (ProcId → ProcId → List Parcel) → List Capacity → ℕ → ℕ → End
start_of feed channels p q = end_at (feed (proc_id p) (proc_id q)) 0 (capacity_in channels p q)

-- the ends of processor p at their start: a tail to each processor, and a head from each
pub record AreEndsOf (processors : ℕ) (feed : ProcId → ProcId → List Parcel)
    (channels : List Capacity) (p : ℕ) (e : Ends) : Type 0 where
  pub all_tails : length e.tails ≡ processors
  pub all_heads : length e.heads ≡ processors
  pub tails : (q : ℕ) → q < processors → end_for e.tails q ≡ start_of feed channels p q
  pub heads : (q : ℕ) → q < processors → end_for e.heads q ≡ start_of feed channels q p
