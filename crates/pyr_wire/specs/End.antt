-- What contracts see of an end of a wire.
use Rattle.std.specs.Prelude.{ℕ, ◌+◌, List}
use Rattle.pyr_num.specs.declared.parcel.Parcel.{Parcel}

pub record End : Type 0 where
  -- the parcels that the wire was made for
  pub whole : List Parcel
  -- how many of them went through this end
  pub count : ℕ
  -- how many the wire holds at most
  pub capacity : ℕ

abbrev pub end_at : List Parcel → ℕ → ℕ → End
end_at whole count capacity = record { whole = whole; count = count; capacity = capacity }

-- the end when one more parcel has gone through it
abbrev pub passed_on : End → End
passed_on e = end_at e.whole (e.count + 1) e.capacity
