-- Parcels that are left in a channel or a stash, and the first send of one.
use Rattle.std.specs.Prelude.{◌≡◌, ℕ, ◌<◌, ◌≤◌, ◌⊎◌, true}
use Rattle.pyr_num.specs.declared.ids.DatumId.{DatumId}
use Rattle.pyr_num.specs.declared.ids.ProcId.{ProcId}
use Rattle.pyr_net.specs.Net.{World}
use Rattle.pyr_bundle.specs.declared.instr.Instr.TheVariants.{Send}
use Rattle.pyr_bundle.specs.Parts.{Parts}
use Rattle.pyr_bundle.specs.WellFormed.{StandsAt}
use Rattle.pyr_machine.specs.Machine.{LocalState, holds, datum_tag}

-- a parcel of this datum is in the channel from p to q, or in the stash of q
abbrev pub IsUnderway : World (LocalState DatumId) DatumId → ℕ → ℕ → ℕ → Type 0
IsUnderway z p q d =
    (holds datum_tag d (z.lists p q) ≡ true) ⊎ (holds datum_tag d (z.locals q).stash ≡ true)

-- the send at this place of the sender's code, of this datum to this receiver, is one whose parcel
-- is left
pub record IsLeft (b : Parts) (z : World (LocalState DatumId) DatumId) (from to : ProcId)
    (place : ℕ) (d : DatumId) : Type 0 where
  pub sends : StandsAt b from.0 place (Send to d)
  pub left : IsUnderway z from.0 to.0 d.0

-- the numbers (a, b, c) do not come after (x, y, z), in the order by the first of them, then by the
-- second, then by the third
abbrev pub NotAfter : ℕ → ℕ → ℕ → ℕ → ℕ → ℕ → Type 0
NotAfter a b c x y z = (a < x) ⊎ ((a ≡ x) × ((b < y) ⊎ ((b ≡ y) × (c ≤ z))))

-- of all sends whose parcel is left, this is the first by sender, receiver and place
pub record IsFirstLeft (b : Parts) (z : World (LocalState DatumId) DatumId) (from to : ProcId)
    (d : DatumId) : Type 0 where
  pub place : ℕ
  pub is_left : IsLeft b z from to place d
  pub first : (p q : ProcId) (i : ℕ) (e : DatumId) → IsLeft b z p q i e
      → NotAfter from.0 to.0 place p.0 q.0 i
