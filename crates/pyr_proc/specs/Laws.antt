-- What holds of the values that processors send and keep.
use Rattle.std.specs.Prelude.{◌≡◌, ℕ, ◌<◌, true, List}
use Rattle.pyr_num.specs.declared.parcel.Parcel.{Parcel}
use Rattle.pyr_seq.specs.Sequential.{value_of}
use Rattle.pyr_bundle.specs.Parts.{Parts, IsBundle, datum_count}
use Rattle.pyr_bundle.specs.Values.{IsOrderOf, tasks_of}
use Rattle.pyr_machine.specs.Machine.{LocalState, holds}
use Rattle.pyr_machine.specs.Parcels.{parcel_tag, parcel_of, words_in}
use Rattle.pyr_machine.specs.State.{IsExec, Writes}
use Rattle.pyr_machine.specs.Local.{traffic}
use Rattle.pyr_proc.specs.Rounds.{settled}
use Rattle.pyr_proc.specs.Feed.{frame_traffic}
use Rattle.pyr_proc.specs.Seated.{IsAtEnd}

-- the rounds come to the values that any order of the tasks tells
abbrev pub RoundsSettle : Type 0
RoundsSettle =
    (b : Parts) (frame : ℕ) (order : List ℕ) (d : ℕ) → IsBundle b → IsOrderOf b frame order
    → d < datum_count b → settled (tasks_of b frame) d ≡ value_of (tasks_of b frame) order d

-- so what a wire is made for is the traffic that any order of the tasks tells
abbrev pub FeedsAreTraffic : Type 0
FeedsAreTraffic =
    (b : Parts) (frame : ℕ) (order : List ℕ) (p q : ℕ) → IsBundle b → IsOrderOf b frame order
    → frame_traffic b frame p q ≡ traffic b (parcel_of b frame order) p q

-- a processor at the end of its local run has in its store the value of each datum that a task
-- writes which it executes
pub record HasValue (b : Parts) (frame : ℕ) (order : List ℕ) (l : LocalState Parcel) (d : ℕ)
    : Type 0 where
  pub there : holds parcel_tag d l.store ≡ true
  pub words : words_in d l.store ≡ value_of (tasks_of b frame) order d

abbrev pub EndsHaveValues : Type 0
EndsHaveValues =
    (b : Parts) (frame : ℕ) (order : List ℕ) (p i t d : ℕ) (l : LocalState Parcel) → IsBundle b
    → IsOrderOf b frame order → IsAtEnd b frame p l → IsExec b p i t → Writes b t d
    → HasValue b frame order l d
