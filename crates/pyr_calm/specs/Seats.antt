-- No public clause cites this. What the code keeps of each processor in one pass for a receiver,
-- and the view that these stand for.
use Rattle.std.specs.Prelude.{◌≡◌, ℕ, ◌+◌, ◌-◌, ◌<◌, ◌≤◌, max, List, [], ◌∷◌, ◌++◌, length, drop, replicate, slice_index, slice_index_or, slice_set}
use Rattle.pyr_calm.specs.declared.passage.Passage.{Passage}
use Rattle.pyr_calm.specs.Viewers.{View, taken_from, viewed_all, fresh_view}

-- a processor: of how many of the receiver's takes it has heard, and of these how many are counted
-- and how many of the counted are takes from it; how many parcels it has sent to the receiver, and
-- the greatest length that one of these sends may leave; and the stamps of what is on its way to
-- each other processor
pub record Seat : Type 0 where
  pub known : ℕ
  pub counted : ℕ
  pub received : ℕ
  pub sent : ℕ
  pub most : ℕ
  pub ways : List (List ℕ)

abbrev pub no_seat : Seat
no_seat = record { known = 0; counted = 0; received = 0; sent = 0; most = 0; ways = [] }

abbrev pub seat_at : List Seat → ℕ → Seat
seat_at seats p = slice_index_or seats p no_seat

abbrev pub way_at : List (List ℕ) → ℕ → List ℕ
way_at ways q = slice_index_or ways q []

-- the view
abbrev pub view_of : List Seat → List ℕ → View
view_of seats takes = record {
  takes = takes;
  known = λ r. (seat_at seats r).known;
  ways = λ a b. way_at (seat_at seats a).ways b;
  sent = λ r. (seat_at seats r).sent;
  most = λ r. (seat_at seats r).most;
}

-- none of these is above n
abbrev pub AllWithin : ℕ → List ℕ → Type 0
AllWithin n [] = Unit {0}
AllWithin n (x ∷ xs) = (x ≤ n) × AllWithin n xs

-- nobody has heard of more takes than there are
pub record IsWithin (n : ℕ) (v : View) : Type 0 where
  pub known : (r : ℕ) → v.known r ≤ n
  pub stamps : (a b : ℕ) → AllWithin n (v.ways a b)

-- what processor p has counted
pub record IsCounted (p : ℕ) (takes : List ℕ) (s : Seat) : Type 0 where
  pub some : s.counted ≤ s.known
  pub received : s.received ≡ taken_from p takes s.counted

-- what the code keeps in a pass, of n processors
pub record IsSeated (n : ℕ) (seats : List Seat) (takes : List ℕ) : Type 0 where
  pub count : length seats ≡ n
  pub ways : (p : ℕ) → p < n → length (seat_at seats p).ways ≡ n
  pub within : IsWithin (length takes) (view_of seats takes)
  pub counted : (p : ℕ) → IsCounted p takes (seat_at seats p)

-- a processor of n at the start of a pass
abbrev pub fresh_seat : ℕ → Seat
fresh_seat n = record no_seat { ways = replicate n [] }

-- after it has sent a parcel to this one
abbrev pub stamped : Seat → ℕ → Seat
stamped s to =
    record s { ways = slice_set s.ways to (way_at s.ways to ++ s.known ∷ []) }

-- after the front of its parcels to this one is taken
abbrev pub handed_over : Seat → ℕ → Seat
handed_over s to = record s { ways = slice_set s.ways to (drop 1 (way_at s.ways to)) }

-- after a send of p to the receiver is counted
abbrev pub sent_once : ℕ → List ℕ → Seat → Seat
sent_once p takes s = record s {
  counted = s.known;
  received = taken_from p takes s.known;
  sent = s.sent + 1;
  most = max s.most (s.sent + 1 - taken_from p takes s.known);
}

-- the first n rows have for each sender the greatest length that these passages tell
pub record AreTold (processors : ℕ) (xs : List Passage) (n : ℕ) (rows : List (List ℕ))
    : Type 0 where
  pub count : length rows ≡ n
  pub full : (q : ℕ) → q < n → length (way_at rows q) ≡ processors
  pub most : (q p : ℕ) → q < n → p < processors
      → slice_index (way_at rows q) p ≡ (viewed_all q xs fresh_view).most p
