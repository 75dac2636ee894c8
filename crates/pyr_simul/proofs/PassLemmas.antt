-- The simulated graph along the plan's order, with the processors for keys.
use Rattle.std.proofs.Common.{◌≡◌, ℕ, ◌+◌, ◌<◌, ◌≤◌, Bool, true, false, cond, max, List, length, get_or, set, inl, inr, arith}
use Rattle.std.specs.Prelude.{slice_index}
use Rattle.std.proofs.lemmas.Bool.{cases_lt}
use Rattle.std.proofs.lemmas.List.{length-map, get_or_past}
use Rattle.pyr_num.specs.declared.limits.TheConstants.Limits.{READS}
use Rattle.pyr_seq.specs.Walk.{IsTopological}
use Rattle.pyr_graph.specs.declared.placement.Placement.{Placement}
use Rattle.pyr_graph.specs.declared.plan.Plan.{Plan}
use Rattle.pyr_graph.specs.Placements.{processor_of}
use Rattle.pyr_graph.specs.System.{System, task_count, task_numbers, IsEdge}
use Rattle.pyr_graph.specs.WholeGraph.{IsGraph}
use Rattle.pyr_graph.specs.Bounds.{IsWithinLimits}
use Rattle.pyr_graph.proofs.ListLemmas.{nat_eq-same}
use Rattle.pyr_levels.specs.Path.{IsTlevel}
use Rattle.pyr_levels.proofs.Places.{place_of, number_at}
use Rattle.pyr_levels.proofs.KeyedPass.{IsPassed, edge-early, finish-early, IsPassed-step, IsPassed-all}
use Rattle.pyr_levels.proofs.KeyedLemmas.{IsKeyed, IsLatestArrival}
use Rattle.pyr_graph.specs.Placements.{same_processor}
use Rattle.pyr_rcp.specs.Order.{IsPlaced, IsOrdered}
use Rattle.pyr_rcp.proofs.PlanLemmas.{IsTopological-from_ordered}
use Rattle.pyr_simul.specs.declared.durations.Durations.{Durations}
use Rattle.pyr_simul.specs.Durations.{IsFor, time_of}
use Rattle.pyr_simul.specs.Simulated.{simulated_graph, simulated_delay, delay_between}
use Rattle.pyr_simul.specs.Passes.{IsLatest, most_delay, longest_times}
use Rattle.pyr_simul.proofs.DelayLemmas.{delay_between-low}

pub IsKeyed-processors : (s : System) (placement : Placement) (order : List ℕ) (d : Durations) → IsTopological (task_count s) (IsEdge s) order
    → IsKeyed (simulated_graph s placement order d) (task_count s) (IsEdge s) (processor_of placement) order
IsKeyed-processors s placement order d top = record {
  top = top;
  task = λ t t_in. t_in;
  below = λ t t_in. t_in;
  link = λ a b a_in b_in link. link;
  edge = λ a b a_in b_in edge. inl edge;
  follow = λ a b a_in b_in follows. inr follows;
  free = λ a b a_in b_in same. rw (nat_eq-same (processor_of placement a) (processor_of placement b) same);
}

pub processor-below : (s : System) (placement : Placement) → IsPlaced s placement → (t : ℕ) → t < task_count s → processor_of placement t < placement.processors
processor-below s placement placed t t_in = placed.below t (record { 0 = 0 }) (omega (arith, t_in, placed.full))

-- a task and what it sends to one other take so long at most
pub delay-low : (s : System) (placement : Placement) (d : Durations) → IsWithinLimits s → IsFor s d → (a b : ℕ) → time_of d a + simulated_delay s placement d a b ≤ most_delay
delay-low s placement d limits durations a b =
    let low = delay_between-low s d a durations.delays b READS (limits.reads b) in
    let less = left-out (same_processor placement a b) (delay_between s d a b) in
    omega (arith, durations.times a, low, less)
  where
    left-out : (b : Bool) (n : ℕ) → cond b 0 n ≤ n
    left-out true n = omega arith
    left-out false n = omega arith

pub IsLatestArrival-from_latest : (s : System) (placement : Placement) (order : List ℕ) (d : Durations) (starts : List ℕ) (t latest : ℕ) → IsLatest s placement d starts t latest
    → IsLatestArrival (simulated_graph s placement order d) (task_count s) (IsEdge s) (slice_index starts) t latest
IsLatestArrival-from_latest s placement order d starts t latest is = record { above = is.above; reached = is.reached }

-- One task more of the plan's order.
module _ (s : System) (placement : Placement) (plan : Plan) (d : Durations)
    (graph : IsGraph s) (placed : IsPlaced s placement) (ordered : IsOrdered s placement plan) (durations : IsFor s d) where
  -- the first tasks of the order are simulated
  abbrev pub IsSimulatedTo : ℕ → List ℕ → List ℕ → Type 0
  IsSimulatedTo i starts ends =
      IsPassed (simulated_graph s placement (task_numbers plan.order) d) (task_count s) (processor_of placement) (task_numbers plan.order) most_delay placement.processors i starts ends

  top : IsTopological (task_count s) (IsEdge s) (task_numbers plan.order)
  top = IsTopological-from_ordered s placement plan ordered

  keyed : IsKeyed (simulated_graph s placement (task_numbers plan.order) d) (task_count s) (IsEdge s) (processor_of placement) (task_numbers plan.order)
  keyed = IsKeyed-processors s placement (task_numbers plan.order) d top

  module _ (i : ℕ) (inside : i < length plan.order) where
    abbrev t : ℕ
    t = (get_or plan.order i (record { 0 = 0 })).0

    number : slice_index (task_numbers plan.order) i ≡ t
    number = number_at plan.order i inside

    place_in : i < task_count s
    place_in = omega (arith, inside, ordered.all)

    pub task-in : (get_or plan.order i (record { 0 = 0 })).0 < task_count s
    task-in = rw (← number) (top.tasks i 0 (rw length-map inside))

    module _ (starts ends : List ℕ) (before : IsSimulatedTo i starts ends) where
      pub edge-fits : (u : ℕ) → u < task_count s → IsEdge s u (get_or plan.order i (record { 0 = 0 })).0
          → slice_index starts u + (time_of d u + simulated_delay s placement d u (get_or plan.order i (record { 0 = 0 })).0) ≤ longest_times
      edge-fits u u_in edge =
          let early = edge-early (simulated_graph s placement (task_numbers plan.order) d) (task_count s) (IsEdge s) (processor_of placement) (task_numbers plan.order) keyed
          most_delay placement.processors (delay-low s placement d graph.limits durations) (processor-below s placement placed) i place_in starts ends before u u_in (rw number edge) in
          let early' = rw number at early in
          omega (arith, early', graph.limits.tasks, place_in)

      module _ (latest start : ℕ) (arrives : IsLatest s placement d starts (get_or plan.order i (record { 0 = 0 })).0 latest)
          (at : start ≡ max latest (slice_index ends (processor_of placement (get_or plan.order i (record { 0 = 0 })).0))) where
        arrival : IsLatestArrival (simulated_graph s placement (task_numbers plan.order) d) (task_count s) (IsEdge s) (slice_index starts) (slice_index (task_numbers plan.order) i) latest
        arrival = IsLatestArrival-from_latest s placement (task_numbers plan.order) d starts _ latest (rw number arrives)

        greater : start ≡ max (slice_index ends (processor_of placement (slice_index (task_numbers plan.order) i))) latest
        greater = rw number (omega (arith, at))

        pub finish-fits : start + time_of d (get_or plan.order i (record { 0 = 0 })).0 ≤ longest_times
        finish-fits =
            let early = finish-early (simulated_graph s placement (task_numbers plan.order) d) (task_count s) (IsEdge s) (processor_of placement) (task_numbers plan.order) keyed
            most_delay placement.processors (delay-low s placement d graph.limits durations) (processor-below s placement placed) i place_in starts ends before latest start arrival greater in
            let early' = rw number at early in
            omega (arith, early', graph.limits.tasks, place_in)

        pub IsSimulatedTo-step : IsSimulatedTo (i + 1) (set starts (get_or plan.order i (record { 0 = 0 })).0 start)
            (set ends (processor_of placement (get_or plan.order i (record { 0 = 0 })).0) (start + time_of d (get_or plan.order i (record { 0 = 0 })).0))
        IsSimulatedTo-step =
            rw number at (IsPassed-step (simulated_graph s placement (task_numbers plan.order) d) (task_count s) (IsEdge s) (processor_of placement) (task_numbers plan.order) keyed
            most_delay placement.processors (delay-low s placement d graph.limits durations) (processor-below s placement placed) i place_in starts ends before latest start arrival greater)

  module _ (i : ℕ) (all : i ≡ length plan.order) (starts ends : List ℕ) (before : IsSimulatedTo i starts ends) where
    all-tasks : i ≡ task_count s
    all-tasks = omega (arith, all, ordered.all)

    pub starts-are : (t : ℕ) → t < task_count s → IsTlevel (simulated_graph s placement (task_numbers plan.order) d) t (slice_index starts t)
    starts-are = IsPassed-all (simulated_graph s placement (task_numbers plan.order) d) (task_count s) (IsEdge s) (processor_of placement) (task_numbers plan.order) keyed
        most_delay placement.processors i starts ends all-tasks before

    -- and the finishes are small
    pub finishes-fit : (t : ℕ) → slice_index starts t + time_of d t ≤ longest_times
    finishes-fit t = elim (cases_lt t (task_count s)) [
      | inl t_in ↦
          let (j, j_in, here) = place_of (task_count s) (IsEdge s) (task_numbers plan.order) top t t_in in
          let early = rw here at (before.small j (omega (arith, j_in, all-tasks))) in
          omega (arith, early, durations.times t, graph.limits.tasks, j_in)
      | inr past ↦
          let none : slice_index starts t ≡ 0 = get_or_past starts t 0 (omega (arith, past, before.starts_full)) in
          omega (arith, none, durations.times t)
    ]
