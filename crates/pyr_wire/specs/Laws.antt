-- What holds of the channel of every wire. The words for steps are those of `crossbeam_channel`: a
-- step keeps the rule whatever the channel holds and whatever the other pass knows.
use Rattle.std.specs.Prelude.{◌≡◌, ℕ, ◌≤◌, List, [], ◌∷◌, Some, length, slice_get, slice_range}
use Rattle.crossbeam_channel.specs.Fifo.{Pushes, Pops, Forks}
use Rattle.pyr_num.specs.declared.parcel.Parcel.{Parcel}
use Rattle.pyr_wire.specs.declared.rule.Progress.{Progress}
use Rattle.pyr_wire.specs.declared.rule.Part.TheVariants.{Sends as TailSends, Receives as HeadReceives}
use Rattle.pyr_wire.specs.InOrder.{progress, unsplit, IsInOrder, HasSent, HasReceived}

-- the rule holds of an empty channel with the first pass alone
abbrev pub Starts : Type 0
Starts = IsInOrder [] (unsplit ∷ [])

-- the first pass becomes the tail's, and the head's is new: both for one list, with count 0
abbrev pub Splits : Type 0
Splits =
    (pass : ℕ) (whole : List Parcel) (capacity : ℕ)
    → Forks IsInOrder pass unsplit (progress TailSends whole 0 capacity)
    (progress HeadReceives whole 0 capacity)

-- the next parcel of the tail's list goes to the back, where there is room
abbrev pub Sends : Type 0
Sends =
    (pass : ℕ) (v : Progress) (x : Parcel) → v.part ≡ TailSends
    → slice_get v.whole v.count ≡ Some x → Pushes IsInOrder v.capacity pass v x (HasSent v x)

-- the parcel at the front is the next of the head's list, and comes out
abbrev pub Receives : Type 0
Receives =
    (pass : ℕ) (v : Progress) → v.part ≡ HeadReceives → Pops IsInOrder pass v (HasReceived v)

-- what the rule says of the channel, by what the passes of the tail and the head know: it holds the
-- parcels of their list from the head's count up to the tail's, and at most the capacity
pub record HoldsBetween (items : List Parcel) (tail head : Progress) : Type 0 where
  pub one_list : head.whole ≡ tail.whole
  pub one_capacity : head.capacity ≡ tail.capacity
  pub in_order : head.count ≤ tail.count
  pub within : tail.count ≤ length tail.whole
  pub between : items ≡ slice_range tail.whole head.count tail.count
  pub few : length items ≤ tail.capacity

abbrev pub Carried : Type 0
Carried =
    (items : List Parcel) (tail head : Progress) → IsInOrder items (tail ∷ head ∷ [])
    → HoldsBetween items tail head
