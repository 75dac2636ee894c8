-- What is seen of a processor while it runs. No public clause cites this.
use Rattle.std.specs.Prelude.{ℕ, List}
use Rattle.pyr_num.specs.declared.parcel.Parcel.{Parcel}
use Rattle.pyr_bundle.specs.Parts.{Parts}
use Rattle.pyr_machine.specs.Machine.{LocalState}
use Rattle.pyr_wire.specs.End.{End}

-- the bundle that it was made for, its number, the frames that it was made for, its place, store
-- and stash, and the ends of its wires
pub record Standing : Type 0 where
  pub bundle : Parts
  pub number : ℕ
  pub frames : ℕ
  pub local : LocalState Parcel
  pub heads : List End
  pub tails : List End
