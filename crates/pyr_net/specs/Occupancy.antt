-- How full the lists of a net get along a run, and the same net with other capacities.
use Rattle.std.specs.Prelude.{◌≡◌, ℕ, ◌≤◌, max, List, [], ◌∷◌, length}
use Rattle.pyr_net.specs.Net.{Rules, World, next}
use Rattle.pyr_net.specs.Run.{IsRun, end_of}

-- the same net with other capacities
abbrev pub with_capacities : {L P : Type 0} → Rules L P → (ℕ → ℕ → ℕ) → Rules L P
with_capacities net capacity = record net { capacity = capacity }

-- the occupancy of the list from p to q: the greatest length that it has along a run from w
abbrev pub occupancy : {L P : Type 0} → Rules L P → World L P → List ℕ → ℕ → ℕ → ℕ
occupancy net w [] p q = length (w.lists p q)
occupancy net w (a ∷ run) p q = max (length (w.lists p q)) (occupancy net (next net w a) run p q)

-- the run stays one, with the same end
pub record RunsAsWell {L P : Type 0} (net other : Rules L P) (w : World L P) (run : List ℕ)
    : Type 0 where
  pub is_run : IsRun other w run
  pub ends : end_of other w run ≡ end_of net w run

-- a run stays one where each list may be as long as it gets in this run
abbrev pub OccupancySuffices : (L P : Type 0) → Type 0
OccupancySuffices L P =
    (net : Rules L P) (w : World L P) (run : List ℕ) (capacity : ℕ → ℕ → ℕ) → IsRun net w run →
    ((p q : ℕ) → occupancy net w run p q ≤ capacity p q) →
    RunsAsWell net (with_capacities net capacity) w run

-- no list passes its capacity
abbrev pub Fits : {L P : Type 0} → Rules L P → World L P → Type 0
Fits net w = (p q : ℕ) → length (w.lists p q) ≤ net.capacity p q

-- along a run no list passes its capacity, where none does at its start
abbrev pub OccupancyFits : (L P : Type 0) → Type 0
OccupancyFits L P =
    (net : Rules L P) (w : World L P) (run : List ℕ) → IsRun net w run → Fits net w → (p q : ℕ) →
    occupancy net w run p q ≤ net.capacity p q
