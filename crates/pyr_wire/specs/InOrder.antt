-- The rule of a wire: what its channel holds, and what its two passes know.
use Rattle.std.specs.Prelude.{◌≡◌, ℕ, ◌+◌, ◌≤◌, List, [], ◌∷◌, Some, length, slice_get, slice_range, ◌⊎◌}
use Rattle.pyr_num.specs.declared.parcel.Parcel.{Parcel}
use Rattle.pyr_wire.specs.End.{End, end_at}
use Rattle.pyr_wire.specs.declared.rule.Progress.{Progress}
use Rattle.pyr_wire.specs.declared.rule.Part.{Part}
use Rattle.pyr_wire.specs.declared.rule.Part.TheVariants.{Unsplit, Sends, Receives}

abbrev pub progress : Part → List Parcel → ℕ → ℕ → Progress
progress part whole count capacity =
    record { part = part; whole = whole; count = count; capacity = capacity }

-- the first pass, which stands for no list yet
abbrev pub unsplit : Progress
unsplit = progress Unsplit [] 0 0

-- what a pass tells of its end
abbrev pub end_of : Progress → End
end_of v = end_at v.whole v.count v.capacity

-- one parcel more has gone through the end
abbrev pub more_of : Progress → Progress
more_of v = progress v.part v.whole (v.count + 1) v.capacity

-- the tail has sent so many parcels of the list, and the head has received so many of them: the
-- channel holds those in between, and no more than its capacity
pub record Carries (items : List Parcel) (views : List Progress) : Type 0 where
  pub whole : List Parcel
  pub sent : ℕ
  pub received : ℕ
  pub capacity : ℕ
  pub views_are : views
      ≡ progress Sends whole sent capacity ∷ progress Receives whole received capacity ∷ []
  pub in_order : received ≤ sent
  pub within : sent ≤ length whole
  pub between : items ≡ slice_range whole received sent
  pub few : length items ≤ capacity

-- before the split there is one pass, and the channel is empty
pub record IsNew (items : List Parcel) (views : List Progress) : Type 0 where
  pub views_are : views ≡ unsplit ∷ []
  pub empty : items ≡ []

abbrev pub IsInOrder : List Parcel → List Progress → Type 0
IsInOrder items views = IsNew items views ⊎ Carries items views

-- what a send does to the pass: the count rises by one
abbrev pub HasSent : Progress → Parcel → Progress → Type 0
HasSent v x w = w ≡ more_of v

-- what a receive does to it: the parcel is the next of the list, and the count rises by one
abbrev pub HasReceived : Progress → Parcel → Progress → Type 0
HasReceived v x w = (slice_get v.whole v.count ≡ Some x) × (w ≡ more_of v)
