-- The latest finish of an examined exit stands for that of all examined tasks.
use Rattle.std.proofs.Common.{◌≡◌, ℕ, zero, suc, ◌-◌, ◌<◌, ◌≤◌, max, true, List, [], inl, inr, arith}
use Rattle.std.specs.Prelude.{◌&&◌, filter, slice_index}
use Rattle.std.specs.List.{list_any}
use Rattle.std.proofs.lemmas.Bool.{cases_Bool}
use Rattle.pyr_seq.specs.Walk.{IsTopological}
use Rattle.pyr_graph.specs.declared.clustering.Step.{Step}
use Rattle.pyr_graph.specs.System.{System, task_count, IsEdge}
use Rattle.pyr_graph.specs.Edges.{has_edge}
use Rattle.pyr_graph.proofs.NumberLemmas.{some-passes, kept-number, number-kept, greatest-ge, greatest-low}
use Rattle.pyr_graph.proofs.SenderLemmas.{has_edge-IsEdge}
use Rattle.pyr_levels.specs.Levels.{AreBlevels}
use Rattle.pyr_levels.specs.Scheduled.{scheduled_graph, AreTlevels}
use Rattle.pyr_levels.proofs.Paths.{IsTlevel-link}
use Rattle.pyr_levels.proofs.Places.{place_of}
use Rattle.pyr_levels.proofs.ClusterLemmas.{and-true}
use Rattle.pyr_dsc.specs.State.{State, all_tasks, tlevel, finish, is_examined}
use Rattle.pyr_dsc.specs.Run.{state, AreSteps}
use Rattle.pyr_dsc.specs.Time.{greatest_head, latest_finish, greatest_of_three, is_exit, latest_exit}
use Rattle.pyr_dsc.proofs.HeldLemmas.{held-number}
use Rattle.pyr_dsc.proofs.ClosedLemmas.{IsClosed, IsClosed-run}
use Rattle.pyr_dsc.proofs.TimeLemmas.{into-fresh}

module _ (z : State) (order : List ℕ)
    (top : IsTopological (task_count z.system) (IsEdge z.system) order)
    (bottom : AreBlevels z.system z.blevels)
    (are : AreTlevels z.system z.clusters z.tlevels)
    (closed : IsClosed z.system z.clusters)
  where
    abbrev most : ℕ
    most = max (latest_exit z) (greatest_head z)

    -- an examined task that isn't an exit ends before a successor's finish, or before a head's priority
    examined-below : (n i : ℕ) → task_count z.system - i ≤ n → i < task_count z.system → is_examined z (slice_index order i) ≡ true
        → finish z (slice_index order i) ≤ most
    examined-below zero i less i_in here = absurd (omega arith)
    examined-below (suc n) i less i_in here = elim (cases_Bool (list_any (has_edge z.system (slice_index order i)) (all_tasks z))) [
      | inl some ↦
          let (b, held, test) = some-passes (has_edge z.system (slice_index order i)) (all_tasks z) some in
          let b_in = held-number (task_count z.system) b held in
          let edge = has_edge-IsEdge z.system (slice_index order i) b test in
          let t_in : slice_index order i < task_count z.system = top.tasks i 0 (omega (arith, top.full)) in
          elim (cases_Bool (is_examined z b)) [
            | inl both ↦
                let link = IsTlevel-link (scheduled_graph z.system z.clusters) (slice_index order i) b (tlevel z (slice_index order i)) (tlevel z b) t_in b_in (inl edge) (are.each (slice_index order i) t_in) (are.each b b_in) in
                let (j, j_in, there) = place_of (task_count z.system) (IsEdge z.system) order top b b_in in
                let later : i < j = top.before i j i_in j_in (rw there edge) in
                let low = examined-below n j (omega (arith, later, less)) j_in (rw there both) in
                let low' : finish z b ≤ most = rw there at low in
                omega (arith, link, low')
            | inr new ↦
                let head = into-fresh z order top bottom are closed (slice_index order i) b t_in b_in here new edge in
                omega (arith, head)
          ]
      | inr none ↦
          let t_in : slice_index order i < task_count z.system = top.tasks i 0 (omega (arith, top.full)) in
          let passes : (is_examined z (slice_index order i) && is_exit z (slice_index order i)) ≡ true = rw (here, none) in
          let low = greatest-ge (finish z) (filter (λ t. is_examined z t && is_exit z t) (all_tasks z)) (slice_index order i)
          (number-kept (λ t. is_examined z t && is_exit z t) (task_count z.system) (slice_index order i) t_in passes) in
          omega (arith, low)
    ]

    latest-below : latest_finish z ≤ most
    latest-below = greatest-low (finish z) most (filter (is_examined z) (all_tasks z)) (λ t held.
        let (t_in, here) = kept-number (is_examined z) (task_count z.system) t held in
        let (i, i_in, is) = place_of (task_count z.system) (IsEdge z.system) order top t t_in in
        rw is at (examined-below (task_count z.system) i (omega arith) i_in (rw is here)))

    exit-below : latest_exit z ≤ latest_finish z
    exit-below = greatest-low (finish z) (latest_finish z) (filter (λ t. is_examined z t && is_exit z t) (all_tasks z)) (λ t held.
        let (t_in, both) = kept-number (λ u. is_examined z u && is_exit z u) (task_count z.system) t held in
        let here = (and-true (is_examined z t) (is_exit z t) both).0 in
        greatest-ge (finish z) (filter (is_examined z) (all_tasks z)) t (number-kept (is_examined z) (task_count z.system) t t_in here))

    pub exits-decide : greatest_of_three z ≡ max (latest_exit z) (greatest_head z)
    exits-decide = omega (arith, latest-below, exit-below)

pub exits_decide : (s : System) (order blevels : List ℕ) (steps : List Step) (clusters : List (List ℕ)) (tlevels : List ℕ)
    → IsTopological (task_count s) (IsEdge s) order → AreBlevels s blevels → AreSteps s blevels [] steps clusters → AreTlevels s clusters tlevels
    → greatest_of_three (state s blevels clusters tlevels) ≡ max (latest_exit (state s blevels clusters tlevels)) (greatest_head (state s blevels clusters tlevels))
exits_decide s order blevels steps clusters tlevels top bottom steps_are are =
    exits-decide (state s blevels clusters tlevels) order top bottom are (IsClosed-run s blevels steps clusters steps_are)
