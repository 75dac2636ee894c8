-- The store of a processor, as its code keeps it: an entry for each datum.
use Rattle.std.specs.Prelude.{ℕ, ◌+◌, true, false, if◌then◌else◌, List, [], ◌∷◌, slice_index_or}
use Rattle.pyr_num.specs.declared.parcel.Parcel.{Parcel}
use Rattle.pyr_bundle.specs.Parts.{datum_id}
use Rattle.pyr_proc.specs.declared.entry.Entry.{Entry}

-- the parcels of these entries, which are of the data from `from` on: of those that are held
abbrev pub parcels_from : ℕ → List Entry → List Parcel
parcels_from from [] = []
parcels_from from (e ∷ entries) =
    if e.held then record { tag = datum_id from; words = e.words } ∷ parcels_from (from + 1) entries
    else parcels_from (from + 1) entries

-- all parcels in the store, by rising datum
abbrev pub store_of : List Entry → List Parcel
store_of = parcels_from 0

-- an entry with these words
abbrev pub entry : List ℕ → Entry
entry words = record { held = true; words = words }

-- the entry of a datum; past the end, one without words
abbrev pub no_entry : Entry
no_entry = record { held = false; words = [] }

abbrev pub entry_at : List Entry → ℕ → Entry
entry_at entries d = slice_index_or entries d no_entry
