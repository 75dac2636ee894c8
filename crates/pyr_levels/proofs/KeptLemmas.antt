-- What the tables of a partial clustering tell: no number in them is great, and the levels of the examined tasks are top levels.
use Rattle.std.proofs.Common.{◌≡◌, ℕ, ◌+◌, ◌*◌, ◌<◌, ◌≤◌, Bool, true, false, cond, Option, Some, None, List, length, arith, inl, inr, refl}
use Rattle.std.specs.Prelude.{slice_index}
use Rattle.std.proofs.lemmas.Bool.{cases_Bool, cases_lt}
use Rattle.std.proofs.lemmas.List.{get_or_past}
use Rattle.std.proofs.lemmas.List.Elements.{All-contains}
use Rattle.pyr_graph.specs.System.{System, task_count, cost_of, weight_of, IsEdge}
use Rattle.pyr_graph.specs.Bounds.{IsWithinLimits}
use Rattle.pyr_graph.proofs.Counting.{length-le_from_apart}
use Rattle.pyr_graph.proofs.ListLemmas.{Contains-tested, tested-Contains}
use Rattle.pyr_levels.specs.Levels.{heaviest}
use Rattle.pyr_levels.specs.Scheduled.{last_of, AreTlevels}
use Rattle.pyr_levels.specs.Partial.{cluster_tasks, clusters_of, examined, cluster_in, is_in, Clustered, IsPartialOf, IsExamined, IsArrival, IsStart, end_by, end_in}
use Rattle.pyr_graph.specs.Clusters.{filled}
use Rattle.pyr_graph.specs.Numbers.{holds}
use Rattle.pyr_levels.specs.Passes.{IsLevelled, IsStanding}
use Rattle.pyr_levels.proofs.Unique.{IsTlevel-same}
use Rattle.pyr_levels.proofs.ScheduledLemmas.{last_in}
use Rattle.pyr_levels.proofs.PartialLemmas.{length-examined}
use Rattle.pyr_levels.proofs.ClusterLemmas.{Apart, Apart-from_AllPairs, holds-examined, cluster_in-from_holds}

cond-le : (b : Bool) (w m : ℕ) → w ≤ m → cond b 0 w ≤ m
cond-le true w m le = omega arith
cond-le false w m le = le

module _ (s : System) (c : Clustered) (of : IsStanding s c) where
  pub once-standing : Apart (examined c.placed)
  once-standing = Apart-from_AllPairs (examined c.placed) of.once

  -- the last task of a cluster is examined, and in that cluster
  pub last-examined : (k u : ℕ) → last_of (cluster_tasks c.placed k) ≡ Some u → IsExamined c u × (cluster_in c.placed u ≡ Some k)
  last-examined k u is =
      let held = last_in (cluster_tasks c.placed k) u is in
      (Contains-tested u (examined c.placed) (holds-examined c.placed k u held), cluster_in-from_holds c.placed k u once-standing held)

  -- a task that is examined is a task
  pub examined-task : (u : ℕ) → IsExamined c u → u < task_count s
  examined-task u held = All-contains (λ v. v < task_count s) (examined c.placed) u of.tasks held

  module _ (limits : IsWithinLimits s) where
    pub finish-weight : (u t : ℕ) → IsExamined c u → slice_index c.finishes u + weight_of s u t ≤ c.slots * heaviest
    finish-weight u t held = omega (arith, of.finishes u held, of.small u held, limits.costs u, limits.weights u t)

    pub finish-small : (u : ℕ) → IsExamined c u → slice_index c.finishes u ≤ c.slots * heaviest
    finish-small u held = omega (arith, finish-weight u u held)

    pub arrival-small : (t latest : ℕ) → IsArrival s c t latest → latest ≤ c.slots * heaviest
    arrival-small t latest is = elim is.reached [
      | inl none ↦ omega (arith, none)
      | inr (u, held, edge, same) ↦ omega (arith, finish-weight u t held, same)
    ]

    end-of-last : (o : Option ℕ) → ((u : ℕ) → o ≡ Some u → IsExamined c u) → end_by c.finishes o ≤ c.slots * heaviest
    end-of-last None held = omega arith
    end-of-last (Some u) held = finish-small u (held u refl)

    pub end-small : (k : ℕ) → end_in c k ≤ c.slots * heaviest
    end-small k = end-of-last (last_of (cluster_tasks c.placed k)) (λ u is. (last-examined k u is).0)

    pub start-small : (k t start : ℕ) → ((u : ℕ) → IsEdge s u t → IsExamined c u) → IsStart s c k t start → start ≤ c.slots * heaviest
    start-small k t start free is = elim is.reached [
      | inl same ↦ omega (arith, same, end-small k)
      | inr (u, edge, same) ↦ omega (arith, same, finish-weight u t (free u edge), cond-le (is_in (cluster_in c.placed u) k) (weight_of s u t) (weight_of s u t) (omega arith))
    ]

-- a partial clustering stands
pub standing : (s : System) (c : Clustered) → IsPartialOf s c → IsStanding s c
standing s c of = record {
  room = of.room;
  tasks = of.tasks;
  once = of.once;
  closed = of.closed;
  in_opened = of.in_opened;
  levels_full = of.kept.levels_full;
  finishes_full = of.kept.finishes_full;
  starts = of.kept.starts;
  finishes = of.kept.finishes;
  small = of.kept.small;
  few = (
      let most = length-le_from_apart (examined c.placed) (task_count s) of.once of.tasks in
      omega (arith, most, length-examined c.placed, of.slots));
}

-- and is one again once the arrivals are right
pub IsPartialOf-standing : (s : System) (c : Clustered) → IsStanding s c → c.opened ≤ length (examined c.placed) → c.slots + filled (clusters_of c) ≤ 2 * length c.placed
    → ((t : ℕ) → t < task_count s → (IsExamined c t → ⊥) → IsArrival s c t (slice_index c.levels t)) → IsPartialOf s c
IsPartialOf-standing s c of numbers slots arrivals = record {
  room = of.room;
  tasks = of.tasks;
  once = of.once;
  closed = of.closed;
  numbers = numbers;
  in_opened = of.in_opened;
  kept = record {
    levels_full = of.levels_full;
    finishes_full = of.finishes_full;
    starts = of.starts;
    finishes = of.finishes;
    arrivals = arrivals;
    small = of.small;
  };
  slots = slots;
}

module _ (s : System) (c : Clustered) (of : IsPartialOf s c) where
  -- the finish of a task is its level, with its cost, in any list of top levels
  pub finish-level : (u : ℕ) → IsExamined c u → (levels : List ℕ) → AreTlevels s (clusters_of c) levels
      → slice_index c.finishes u ≡ slice_index levels u + cost_of s u
  finish-level u held levels are =
      let same = IsTlevel-same _ u (slice_index c.levels u) (slice_index levels u) (of.kept.starts u held) (are.each u (examined-task s c (standing s c of) u held)) in
      omega (arith, of.kept.finishes u held, same)

  module _ (limits : IsWithinLimits s) where
    level-small : (t : ℕ) → slice_index c.levels t ≤ c.slots * heaviest
    level-small t = elim (cases_lt t (task_count s)) [
      | inl inside ↦ elim (cases_Bool (holds (examined c.placed) t)) [
        | inl is ↦ omega (arith, of.kept.small t (Contains-tested t (examined c.placed) is))
        | inr new ↦ arrival-small s c (standing s c of) limits t (slice_index c.levels t)
            (of.kept.arrivals t inside (λ held. let found = tested-Contains t (examined c.placed) held in absurd (cc (found, new))))
      ]
      | inr past ↦ (let zero = get_or_past c.levels t 0 (omega (arith, past, of.kept.levels_full)) in omega (arith, zero))
    ]

    pub IsLevelled-examined : IsLevelled s (clusters_of c) (examined c.placed) c.levels
    IsLevelled-examined = record {
      full = of.kept.levels_full;
      tasks = of.tasks;
      once = of.once;
      done = of.kept.starts;
      small = λ t. omega (arith, level-small t, (standing s c of).few);
    }
