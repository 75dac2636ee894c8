-- One more examined task: the tables tell of the longer clusters.
use Rattle.std.proofs.Common.{◌≡◌, ◌≢◌, ℕ, ◌+◌, ◌*◌, ◌<◌, ◌≤◌, ◌⊎◌, Option, Some, None, List, [], ◌∷◌, length, set, arith, inl, inr, ◌∙◌, get_or-set_other, get_or-set_same, length-set, length-append}
use Rattle.std.specs.Prelude.{slice_index, IfSome}
use Rattle.pyr_graph.specs.System.{System, task_count, cost_of, weight_of, IsEdge}
use Rattle.pyr_graph.specs.Bounds.{IsWithinLimits}
use Rattle.pyr_levels.specs.Partial.{clusters_of, examined, cluster_into, Clustered, IsExamined, IsNext, IsStart, IsArrival, IsPartialOf}
use Rattle.pyr_graph.specs.Clusters.{filled}
use Rattle.pyr_levels.specs.Passes.{AreRaised}
use Rattle.pyr_levels.proofs.PartialLemmas.{has_room, clusters_of-examine, filled-with}
use Rattle.pyr_levels.proofs.KeptLemmas.{standing, IsPartialOf-standing}
use Rattle.pyr_levels.proofs.StandingLemmas.{after, one_of, same, held-before, held-after, held-now, read-finish, IsStanding-after}

-- the cluster that a task comes into stands, or is the next one
pub into-stands : (c : Clustered) (into : Option ℕ) → IfSome into (λ k. k < c.opened) → cluster_into c into ≤ c.opened
into-stands c None stands = omega arith
into-stands c (Some k) stands = omega (arith, stands)

module _ (s : System) (c : Clustered) (t k start : ℕ) (levels : List ℕ) (limits : IsWithinLimits s) (of : IsPartialOf s c) (next : IsNext s c t)
    (stands : k ≤ c.opened) (starts : IsStart s c k t start) (raised : AreRaised s t (start + cost_of s t) (set c.levels t start) levels) where
  other : (u : ℕ) → IsExamined c u → u ≢ t
  other u held is = next.new (rw is at held)

  -- what the levels tell of a task that was examined before, and of the new one
  pub read-level : (u : ℕ) → IsExamined c u → slice_index levels u ≡ slice_index c.levels u
  read-level u held = elim (raised.grown u) [
    | inl kept ↦ kept ∙ get_or-set_other c.levels t u start 0 (other u held)
    | inr (edge, more, is) ↦ absurd (next.new (of.closed u t held edge))
  ]

  pub read-start : slice_index levels t ≡ start
  read-start = elim (raised.grown t) [
    | inl kept ↦ kept ∙ get_or-set_same c.levels t start 0 (omega (arith, of.kept.levels_full, next.task))
    | inr (edge, more, is) ↦ absurd (next.new (next.free t edge))
  ]

  room_for : c.slots < 2 * task_count s
  room_for = omega (arith, of.slots, has_room s c t of next, of.room)

  full : length levels ≡ task_count s
  full = raised.full ∙ simp length-set of.kept.levels_full

  own_finish : slice_index (set c.finishes t (start + cost_of s t)) t ≡ start + cost_of s t
  own_finish = get_or-set_same c.finishes t (start + cost_of s t) 0 (omega (arith, of.kept.finishes_full, next.task))

  -- the arrival at a task that is not examined
  arrives : (b : ℕ) → b < task_count s → (IsExamined (after s c t k start levels) b → ⊥) → IsArrival s (after s c t k start levels) b (slice_index levels b)
  arrives b b_in new = record { above = above; reached = reached (raised.grown b) }
    where
      before : IsArrival s c b (slice_index c.levels b)
      before = of.kept.arrivals b b_in (λ held. new (held-after s c t k start levels b held))

      read-before : slice_index (set c.levels t start) b ≡ slice_index c.levels b
      read-before = get_or-set_other c.levels t b start 0 (λ is. new (rw is (held-now s c t k start levels)))

      risen : slice_index c.levels b ≤ slice_index levels b
      risen = elim (raised.grown b) [
        | inl kept ↦ omega (arith, kept, read-before)
        | inr (edge, more, is) ↦ omega (arith, more, read-before)
      ]

      above : (u : ℕ) → IsExamined (after s c t k start levels) u → IsEdge s u b
          → slice_index (set c.finishes t (start + cost_of s t)) u + weight_of s u b ≤ slice_index levels b
      above u held edge = elim (held-before s c t k start levels u held) [
        | inl old ↦ omega (arith, before.above u old edge, read-finish s c t k start levels u (other u old), risen)
        | inr is ↦ rw (← is) (let edge' = rw (← is) at edge in omega (arith, raised.above b edge', own_finish))
      ]

      reached : (slice_index levels b ≡ slice_index (set c.levels t start) b)
          ⊎ (IsEdge s t b × (slice_index (set c.levels t start) b ≤ slice_index levels b) × (start + cost_of s t + weight_of s t b ≡ slice_index levels b))
          → (slice_index levels b ≡ 0) ⊎ ((u : ℕ) × IsExamined (after s c t k start levels) u × IsEdge s u b
          × (slice_index (set c.finishes t (start + cost_of s t)) u + weight_of s u b ≡ slice_index levels b))
      reached (inl kept) = elim before.reached [
        | inl none ↦ inl (omega (arith, none, kept, read-before))
        | inr (u, held, edge, is) ↦ inr (u, held-after s c t k start levels u held, edge, omega (arith, is, read-finish s c t k start levels u (other u held), kept, read-before))
      ]
      reached (inr (edge, more, is)) = inr (t, held-now s c t k start levels, edge, omega (arith, is, own_finish))

  pub IsPartialOf-after : filled (clusters_of (after s c t k start levels)) ≤ filled (clusters_of c) + 1 → IsPartialOf s (after s c t k start levels)
  IsPartialOf-after few =
      IsPartialOf-standing s (after s c t k start levels) (IsStanding-after s c t k start levels limits (standing s c of) next starts room_for full read-level read-start)
      (rw (same s c t k start levels, length-append (examined c.placed) (t ∷ [])) (omega (arith, of.numbers, stands)))
      (rw (length-append c.placed (one_of t k ∷ [])) (omega (arith, few, of.slots)))
      arrives

-- the task is examined
pub IsPartialOf-examine : (s : System) (c : Clustered) (t start : ℕ) (levels : List ℕ) (into : Option ℕ) → IsWithinLimits s → IsPartialOf s c → IsNext s c t
    → IfSome into (λ k. k < c.opened) → IsStart s c (cluster_into c into) t start
    → AreRaised s t (start + cost_of s t) (set c.levels t start) levels → IsPartialOf s (after s c t (cluster_into c into) start levels)
IsPartialOf-examine s c t start levels into limits of next stands starts raised =
    IsPartialOf-after s c t (cluster_into c into) start levels limits of next (into-stands c into stands) starts raised
    (rw (clusters_of-examine c t into of.in_opened stands) (filled-with (clusters_of c) t into))
