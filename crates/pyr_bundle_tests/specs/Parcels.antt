-- What the tests send.
use Rattle.std.specs.Prelude.{ℕ, ◌==◌, ◌&&◌, if◌then◌else◌, List, [], ◌∷◌}
use Rattle.pyr_num.specs.declared.ids.ProcId.{ProcId}
use Rattle.pyr_num.specs.declared.parcel.Parcel.{Parcel}

abbrev pub parcel_of : ℕ → ℕ → Parcel
parcel_of tag word = record { tag = record { 0 = tag }; words = word ∷ [] }

-- two parcels of one word each
abbrev pub two : ℕ → ℕ → List Parcel
two a b = parcel_of 0 a ∷ parcel_of 1 b ∷ []

-- a parcel of datum 0 from processor 0 to 1, and one of datum 1 back
abbrev pub swapped : ℕ → ℕ → ProcId → ProcId → List Parcel
swapped a b p q =
    if (p.0 == 0) && (q.0 == 1) then parcel_of 0 a ∷ []
    else if (p.0 == 1) && (q.0 == 0) then parcel_of 1 b ∷ []
    else []
