-- A run that follows a schedule, while it is made, and how full the channels were so far. No public
-- clause cites this.
use Rattle.std.specs.Prelude.{◌≡◌, ℕ, ◌<◌, ◌≤◌, max, ◌==◌, ◌&&◌, if◌then◌else◌, List, [], ◌∷◌, length, slice_index_or}
use Rattle.pyr_num.specs.declared.ids.DatumId.{DatumId}
use Rattle.pyr_net.specs.Net.{World}
use Rattle.pyr_net.specs.Run.{IsRun}
use Rattle.pyr_net.specs.Occupancy.{occupancy}
use Rattle.pyr_bundle.specs.declared.capacity.Capacity.{Capacity}
use Rattle.pyr_bundle.specs.Parts.{Parts}
use Rattle.pyr_machine.specs.Machine.{LocalState, tags, tag_rules}
use Rattle.pyr_machine.specs.Schedule.{FollowsSchedule}

-- for each of so many processors a row of numbers, one for each processor
pub record Grid : Type 0 where
  pub size : ℕ
  pub rows : List (List ℕ)

-- the number of a pair of processors
abbrev pub number_of : Grid → ℕ → ℕ → ℕ
number_of grid p q = slice_index_or (slice_index_or grid.rows p []) q 0

pub record IsSquare (size : ℕ) (rows : List (List ℕ)) : Type 0 where
  pub count : length rows ≡ size
  pub each : (p : ℕ) → p < size → length (slice_index_or rows p []) ≡ size

-- the same, where the list from p to q has come to this length
abbrev pub raised : (ℕ → ℕ → ℕ) → ℕ → ℕ → ℕ → ℕ → ℕ → ℕ
raised most p q n a b = if (a == p) && (b == q) then max (most a b) n else most a b

-- From w on a run is left that follows the schedule. As far as it was made, no list was longer than
-- `most`, and over all the greatest lengths are `whole`.
pub record IsLeft (b : Parts) (whole : ℕ → ℕ → ℕ) (schedule : List ℕ)
    (w : World (LocalState DatumId) DatumId) (most : ℕ → ℕ → ℕ) : Type 0 where
  pub rest : List ℕ
  pub is_run : IsRun (tag_rules b) w rest
  pub follows : FollowsSchedule (tags b) b w schedule rest
  pub reached : (p q : ℕ) → length (w.lists p q) ≤ most p q
  pub over_all : (p q : ℕ) → max (most p q) (occupancy (tag_rules b) w rest p q) ≡ whole p q

-- such a run is left, in which the next to go on is p
abbrev pub HasTurn : Parts → ℕ → World (LocalState DatumId) DatumId → Type 0
HasTurn b p w =
    (whole : ℕ → ℕ → ℕ) × (schedule : List ℕ) × (most : ℕ → ℕ → ℕ)
    × IsLeft b whole (p ∷ schedule) w most

-- every run that is left, in which the next to go on is p, is left still
abbrev pub KeepsLeft : Parts → ℕ → World (LocalState DatumId) DatumId
    → World (LocalState DatumId) DatumId → Type 0
KeepsLeft b p w v =
    (whole : ℕ → ℕ → ℕ) (schedule : List ℕ) (most : ℕ → ℕ → ℕ)
    → IsLeft b whole (p ∷ schedule) w most → IsLeft b whole (p ∷ schedule) v most

-- p has made all steps of its next instruction in every such run
abbrev pub MakesTurn : Parts → ℕ → World (LocalState DatumId) DatumId → (ℕ → ℕ → ℕ)
    → World (LocalState DatumId) DatumId → (ℕ → ℕ → ℕ) → Type 0
MakesTurn b p w most v more =
    (whole : ℕ → ℕ → ℕ) (schedule : List ℕ) → IsLeft b whole (p ∷ schedule) w most
    → IsLeft b whole schedule v more

-- the channel is between two of so many processors
abbrev pub IsKnown : ℕ → Capacity → Type 0
IsKnown processors c = (c.from.0 < processors) × (c.to.0 < processors)
