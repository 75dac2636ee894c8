-- The clusters that a free task may go to, as the scan over its predecessors meets them. No public
-- clause cites this.
use Rattle.std.specs.Prelude.{◌≡◌, ℕ, ◌<◌, ◌≤◌, true, false, if◌then◌else◌, Option, Some, None, List, nat_eq, length}
use Rattle.pyr_graph.specs.Numbers.{holds}
use Rattle.pyr_levels.specs.Scheduled.{cluster_at}
use Rattle.pyr_dsc.specs.declared.head.Head.{Head}
use Rattle.pyr_dsc.specs.State.{State}
use Rattle.pyr_dsc.specs.Rules.{is_candidate, is_reserved, start_of}

-- the cluster of a task, unless it is the reserved one
abbrev pub unless_reserved : Option ℕ → Option ℕ → Option ℕ
unless_reserved None reserved = None
unless_reserved (Some own) None = Some own
unless_reserved (Some own) (Some kept) = if nat_eq own kept then None else Some own

-- cluster k holds u, and isn't reserved when x is examined
pub record MayTake (z : State) (x k u : ℕ) : Type 0 where
  pub stands : k < length z.clusters
  pub held : holds (cluster_at z.clusters k) u ≡ true
  pub open_to : is_reserved z x k ≡ false

-- x starts in this cluster no later than in any other that may take it from one of these predecessors,
-- and on a tie this one has the smaller number
pub record IsEarliest (z : State) (x : ℕ) (us : List ℕ) (best : Head) : Type 0 where
  pub key : best.key ≡ start_of z x best.number
  pub stands : best.number < length z.clusters
  pub candidate : is_candidate z x best.number ≡ true
  pub least : (k u : ℕ) → holds us u ≡ true → MayTake z x k u
      → start_of z x best.number ≤ start_of z x k
  pub smallest : (k u : ℕ) → holds us u ≡ true → MayTake z x k u
      → start_of z x k ≡ start_of z x best.number → best.number ≤ k

-- the same, or none where none may take it
abbrev pub IsBestOf : State → ℕ → List ℕ → Option Head → Type 0
IsBestOf z x us None = (k u : ℕ) → holds us u ≡ true → MayTake z x k u → ⊥
IsBestOf z x us (Some best) = IsEarliest z x us best
