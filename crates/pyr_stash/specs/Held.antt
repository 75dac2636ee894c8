-- What contracts see of a stash.
use Rattle.std.specs.Prelude.{ℕ, ◌==◌, Bool, List}
use Rattle.pyr_num.specs.declared.ids.DatumId.{DatumId}
use Rattle.pyr_num.specs.declared.parcel.Parcel.{Parcel}
use Rattle.pyr_machine.specs.Parcels.{parcel_tag, words_in}

-- the parcels, the oldest first, and how many more there is room for
pub record Held : Type 0 where
  pub parcels : List Parcel
  pub spare : ℕ

abbrev pub held : List Parcel → ℕ → Held
held parcels spare = record { parcels = parcels; spare = spare }

-- the parcel of a datum among these: what the machine picks of a stash
abbrev pub parcel_in : DatumId → List Parcel → Parcel
parcel_in d xs = record { tag = d; words = words_in d.0 xs }

abbrev pub has_tag : ℕ → Parcel → Bool
has_tag d x = parcel_tag x == d
