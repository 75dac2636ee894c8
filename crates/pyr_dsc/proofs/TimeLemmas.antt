-- The parallel time is the greatest of three numbers, wherever all predecessors of an examined task
-- are examined.
use Rattle.std.proofs.Common.{◌≡◌, ℕ, zero, suc, ◌+◌, ◌-◌, ◌<◌, ◌≤◌, true, false, cond, List, [], ◌∷◌, ◌++◌, ◌⊎◌, inl, inr, refl, arith, sym, ◌∙◌}
use Rattle.std.specs.Prelude.{not, filter, slice_index}
use Rattle.std.specs.List.{list_any, list_all}
use Rattle.std.proofs.lemmas.Bool.{cases_Bool, false_from_ne_true}
use Rattle.pyr_seq.specs.Walk.{IsTopological}
use Rattle.pyr_graph.specs.declared.clustering.Step.{Step}
use Rattle.pyr_graph.specs.System.{System, task_count, cost_of, weight_of, IsEdge}
use Rattle.pyr_graph.specs.Numbers.{greatest}
use Rattle.pyr_graph.specs.Edges.{has_edge}
use Rattle.pyr_graph.proofs.NumberLemmas.{kept-number, number-kept, passes-some, holds-list_all, kept-held, greatest-ge, greatest-reached, greatest-low}
use Rattle.pyr_graph.proofs.SenderLemmas.{IsEdge-has_edge, has_edge-IsEdge}
use Rattle.pyr_levels.specs.Path.{Weighted, IsPath, path_sum, IsBlevel, IsParallelTime}
use Rattle.pyr_levels.specs.Levels.{task_graph, AreBlevels}
use Rattle.pyr_levels.specs.Scheduled.{scheduled_graph, AreTlevels, FollowsInSome, same_cluster}
use Rattle.pyr_levels.proofs.Paths.{IsPath-join, path_sum-join, path_sum-potential, IsTlevel-link, IsTlevel-finish}
use Rattle.pyr_levels.proofs.Places.{place_of}
use Rattle.pyr_levels.proofs.ClusterLemmas.{and-true}
use Rattle.pyr_levels.proofs.TlevelLemmas.{tlevel_step, IsParallelTime-from_tlevels}
use Rattle.pyr_levels.proofs.Unique.{IsTlevel-same}
use Rattle.pyr_dsc.specs.State.{State, all_tasks, tlevel, blevel, finish, is_examined, predecessors, examined_predecessors, is_free, is_partly_free, arrival, partial_tlevel, priority, partial_priority}
use Rattle.pyr_dsc.specs.Run.{state, AreSteps}
use Rattle.pyr_dsc.specs.Time.{greatest_head, latest_finish, greatest_of_three}
use Rattle.pyr_dsc.proofs.HeldLemmas.{not-true, some-fails, held-kept, number-held, held-number}
use Rattle.pyr_dsc.proofs.GreatestLemmas.{first_greatest-most, first_greatest-low}
use Rattle.pyr_dsc.proofs.ClosedLemmas.{IsClosed, IsClosed-run, FollowsInSome-both, fresh-apart, fresh-edge}

-- a bottom level falls along each link
pub IsBlevel-link : (g : Weighted) (a b la lb : ℕ) → g.IsTask a → g.IsLink a b → IsBlevel g a la → IsBlevel g b lb → g.cost a + (g.weight a b + lb) ≤ la
IsBlevel-link g a b la lb a_task link level_a level_b =
    let (rest, path, sum) = level_b.reached in
    let longer = level_a.greatest (b ∷ rest) (a_task, link, path) in
    omega (arith, longer, sum)

module _ (z : State) (order : List ℕ)
    (top : IsTopological (task_count z.system) (IsEdge z.system) order)
    (bottom : AreBlevels z.system z.blevels)
    (are : AreTlevels z.system z.clusters z.tlevels)
    (closed : IsClosed z.system z.clusters)
  where
    abbrev graph : Weighted
    graph = scheduled_graph z.system z.clusters

    fresh-weight : (a b : ℕ) → is_examined z b ≡ false → cond (same_cluster z.clusters a b) 0 (weight_of z.system a b) ≡ weight_of z.system a b
    fresh-weight a b new = rw (fresh-apart z.clusters a b new)

    -- the links out of a task that isn't examined don't lead to an examined one
    fresh-after : (a b : ℕ) → is_examined z a ≡ false → IsEdge z.system a b ⊎ FollowsInSome z.clusters a b → is_examined z b ≡ false
    fresh-after a b new (inl edge) = false_from_ne_true (is_examined z b) (λ is.
        let e : false ≡ true = sym new ∙ closed a b edge is in
        cc)
    fresh-after a b new (inr follows) =
        let both = FollowsInSome-both z.clusters a b follows in
        let e : false ≡ true = sym new ∙ both.0 in
        absurd (cc)

    -- no priority is above the heads
    free-head : (x : ℕ) → x < task_count z.system → is_free z x ≡ true → priority z x ≤ greatest_head z
    free-head x x_in free =
        let most = first_greatest-most (priority z) (filter (is_free z) (all_tasks z)) x (number-kept (is_free z) (task_count z.system) x x_in free) in
        omega (arith, most)

    partly_free-head : (y : ℕ) → y < task_count z.system → is_partly_free z y ≡ true → partial_priority z y ≤ greatest_head z
    partly_free-head y y_in partly =
        let most = first_greatest-most (partial_priority z) (filter (is_partly_free z) (all_tasks z)) y (number-kept (is_partly_free z) (task_count z.system) y y_in partly) in
        omega (arith, most)

    -- a path through an edge from an examined task to one that isn't goes through a head's priority
    pub into-fresh : (a b : ℕ) → a < task_count z.system → b < task_count z.system → is_examined z a ≡ true → is_examined z b ≡ false → IsEdge z.system a b
        → finish z a + (weight_of z.system a b + blevel z b) ≤ greatest_head z
    into-fresh a b a_in b_in here new edge = elim (cases_Bool (list_all (is_examined z) (predecessors z b))) [
      | inl all ↦
          let free : is_free z b ≡ true = rw (new, all) in
          let head = free-head b b_in free in
          let link = IsTlevel-link graph a b (tlevel z a) (tlevel z b) a_in b_in (inl edge) (are.each a a_in) (are.each b b_in) in
          omega (arith, head, link, fresh-weight a b new)
      | inr some ↦
          let before = number-kept (λ u. has_edge z.system u b) (task_count z.system) a a_in (IsEdge-has_edge z.system a b edge) in
          let any : list_any (is_examined z) (predecessors z b) ≡ true = passes-some (is_examined z) (predecessors z b) a before here in
          let partly : is_partly_free z b ≡ true = rw (new, any, some) in
          let head = partly_free-head b b_in partly in
          let latest = greatest-ge (arrival z b) (examined_predecessors z b) a (held-kept (is_examined z) (predecessors z b) a before here) in
          omega (arith, head, latest)
    ]

    blevel-edge : (a b : ℕ) → a < task_count z.system → b < task_count z.system → IsEdge z.system a b
        → cost_of z.system a + (weight_of z.system a b + blevel z b) ≤ blevel z a
    blevel-edge a b a_in b_in edge = IsBlevel-link (task_graph z.system) a b (blevel z a) (blevel z b) a_in edge (bottom.each a a_in) (bottom.each b b_in)

    -- Behind a task that isn't examined no path is greater than a head's priority: such a task is free,
    -- or an earlier one isn't examined either.
    fresh-before : (n i : ℕ) → i < n → i < task_count z.system → is_examined z (slice_index order i) ≡ false → blevel z (slice_index order i) ≤ greatest_head z
    fresh-before zero i less i_in new = absurd (omega arith)
    fresh-before (suc n) i less i_in new = elim (cases_Bool (list_all (is_examined z) (predecessors z (slice_index order i)))) [
      | inl all ↦
          let t_in : slice_index order i < task_count z.system = top.tasks i 0 (omega (arith, top.full)) in
          let free : is_free z (slice_index order i) ≡ true = rw (new, all) in
          let head = free-head (slice_index order i) t_in free in
          omega (arith, head)
      | inr some ↦
          let t_in : slice_index order i < task_count z.system = top.tasks i 0 (omega (arith, top.full)) in
          let (a, held, fails) = some-fails (is_examined z) (predecessors z (slice_index order i)) some in
          let (a_in, test) = kept-number (λ u. has_edge z.system u (slice_index order i)) (task_count z.system) a held in
          let edge = has_edge-IsEdge z.system a (slice_index order i) test in
          let (j, j_in, there) = place_of (task_count z.system) (IsEdge z.system) order top a a_in in
          let earlier : j < i = top.before j i j_in i_in (rw there edge) in
          let low = fresh-before n j (omega (arith, earlier, less)) j_in (rw there fails) in
          let low' : blevel z a ≤ greatest_head z = rw there at low in
          let longer = blevel-edge a (slice_index order i) a_in t_in edge in
          omega (arith, low', longer)
    ]

    pub fresh-low : (t : ℕ) → t < task_count z.system → is_examined z t ≡ false → blevel z t ≤ greatest_head z
    fresh-low t t_in new =
        let (i, i_in, here) = place_of (task_count z.system) (IsEdge z.system) order top t t_in in
        rw here at (fresh-before (suc i) i (omega arith) i_in (rw here new))

    -- Where a number is no less than the heads and than each finish, no path is greater: examined tasks
    -- start at their top levels, and the others as late as their bottom levels let them.
    module _ (bound : ℕ) (heads : greatest_head z ≤ bound)
        (finishes : (t : ℕ) → t < task_count z.system → is_examined z t ≡ true → finish z t ≤ bound)
      where
        abbrev start : ℕ → ℕ
        start t = cond (is_examined z t) (tlevel z t) (bound - blevel z t)

        rises : (a b : ℕ) → a < task_count z.system → b < task_count z.system → IsEdge z.system a b ⊎ FollowsInSome z.clusters a b
            → start a + (cost_of z.system a + cond (same_cluster z.clusters a b) 0 (weight_of z.system a b)) ≤ start b
        rises a b a_in b_in link = elim (cases_Bool (is_examined z a)) [
          | inl one ↦ elim (cases_Bool (is_examined z b)) [
            | inl both ↦ rw (one, both) (IsTlevel-link graph a b (tlevel z a) (tlevel z b) a_in b_in link (are.each a a_in) (are.each b b_in))
            | inr other ↦
                let fits = into-fresh a b a_in b_in one other (fresh-edge z.system z.clusters a b other link) in
                rw (one, other, fresh-apart z.clusters a b other) (omega (arith, fits, heads))
          ]
          | inr none ↦
              let other = fresh-after a b none link in
              let longer = blevel-edge a b a_in b_in (fresh-edge z.system z.clusters a b other link) in
              let low = fresh-low a a_in none in
              rw (none, other, fresh-apart z.clusters a b other) (omega (arith, longer, low, heads))
        ]

        ends : (t : ℕ) → t < task_count z.system → start t + cost_of z.system t ≤ bound
        ends t t_in = elim (cases_Bool (is_examined z t)) [
          | inl here ↦ rw here (finishes t t_in here)
          | inr new ↦
              let low = fresh-low t t_in new in
              let (rest, path, sum) = (bottom.each t t_in).reached in
              let least = cost-least t rest in
              rw new (omega (arith, low, heads, sum, least))
        ]
          where
            cost-least : (t : ℕ) (rest : List ℕ) → cost_of z.system t ≤ path_sum (task_graph z.system) (t ∷ rest)
            cost-least t [] = omega arith
            cost-least t (u ∷ rest) = omega arith

        pub time-below : (time : ℕ) → IsParallelTime graph time → time ≤ bound
        time-below time total =
            let (path, is_path, sum) = total.reached in
            let below : path_sum graph path ≤ bound = under path is_path in
            omega (arith, below, sum)
          where
            under : (path : List ℕ) → IsPath graph path → path_sum graph path ≤ bound
            under [] path = absurd path
            under (t ∷ rest) path =
                let most = path_sum-potential graph (λ u. start u) bound rises ends t rest path in
                omega (arith, most)

    -- Conversely each of the three is the sum of a path.
    -- A path of the task graph from a task that isn't examined is one of the scheduled graph.
    fresh-path : (t : ℕ) (rest : List ℕ) → is_examined z t ≡ false → IsPath (task_graph z.system) (t ∷ rest)
        → IsPath graph (t ∷ rest) × (path_sum graph (t ∷ rest) ≡ path_sum (task_graph z.system) (t ∷ rest))
    fresh-path t [] new path = (path, refl)
    fresh-path t (u ∷ rest) new path =
        let later = fresh-after t u new (inl path.1) in
        let (is, same) = fresh-path u rest later path.2 in
        ((path.0, inl path.1, is), omega (arith, same, fresh-weight t u later))

    module _ (time : ℕ) (total : IsParallelTime graph time) where
      fresh-in_time : (x : ℕ) → x < task_count z.system → is_examined z x ≡ false → priority z x ≤ time
      fresh-in_time x x_in new =
          let (front, to, sum) = (are.each x x_in).reached in
          let (rest, from, sum') = (bottom.each x x_in).reached in
          let (is, same) = fresh-path x rest new from in
          let joined = total.greatest (front ++ x ∷ rest) (IsPath-join graph front x rest to is) in
          omega (arith, joined, path_sum-join graph front x rest, sum, sum', same)

      arrival-in_time : (u y : ℕ) → u < task_count z.system → y < task_count z.system → is_examined z y ≡ false → IsEdge z.system u y
          → arrival z y u + blevel z y ≤ time
      arrival-in_time u y u_in y_in new edge =
          let (front, to, sum) = (are.each u u_in).reached in
          let (rest, from, sum') = (bottom.each y y_in).reached in
          let (is, same) = fresh-path y rest new from in
          let joined = total.greatest (front ++ u ∷ y ∷ rest) (IsPath-join graph front u (y ∷ rest) to (u_in, inl edge, is)) in
          omega (arith, joined, path_sum-join graph front u (y ∷ rest), sum, sum', same, fresh-weight u y new)

      partly_free-in_time : (y : ℕ) → y < task_count z.system → is_examined z y ≡ false → partial_priority z y ≤ time
      partly_free-in_time y y_in new = elim (greatest-reached (arrival z y) (examined_predecessors z y)) [
        | inl none ↦ (let most = fresh-in_time y y_in new in omega (arith, most, none))
        | inr (u, held, is) ↦
            let (before, here) = kept-held (is_examined z) (predecessors z y) u held in
            let (u_in, test) = kept-number (λ a. has_edge z.system a y) (task_count z.system) u before in
            let most = arrival-in_time u y u_in y_in new (has_edge-IsEdge z.system u y test) in
            omega (arith, most, is)
      ]

      pub heads-in_time : greatest_head z ≤ time
      heads-in_time =
          let free = first_greatest-low (priority z) (filter (is_free z) (all_tasks z)) time (λ x held.
          let (x_in, free) = kept-number (is_free z) (task_count z.system) x held in
          let new = and-true (not (is_examined z x)) (list_all (is_examined z) (predecessors z x)) free in
          fresh-in_time x x_in (not-true (is_examined z x) new.0)) in
          let partly = first_greatest-low (partial_priority z) (filter (is_partly_free z) (all_tasks z)) time (λ y held.
          let (y_in, free) = kept-number (is_partly_free z) (task_count z.system) y held in
          let new = and-true (not (is_examined z y)) _ free in
          partly_free-in_time y y_in (not-true (is_examined z y) new.0)) in
          omega (arith, free, partly)

      pub finish-in_time : (t : ℕ) → t < task_count z.system → finish z t ≤ time
      finish-in_time t t_in = IsTlevel-finish graph t (tlevel z t) time (are.each t t_in) total

      latest-in_time : latest_finish z ≤ time
      latest-in_time = greatest-low (finish z) time (filter (is_examined z) (all_tasks z)) (λ t held.
          finish-in_time t (kept-number (is_examined z) (task_count z.system) t held).0)

      pub time-of_three : time ≡ greatest_of_three z
      time-of_three =
          let below = time-below (greatest_of_three z) (omega arith) (λ t t_in here.
          let most = greatest-ge (finish z) (filter (is_examined z) (all_tasks z)) t (number-kept (is_examined z) (task_count z.system) t t_in here) in
          omega (arith, most)) time total in
          omega (arith, below, heads-in_time, latest-in_time)

    -- All links into a free task are edges from examined ones, so its top level is the latest arrival.
    pub free-arrival : (x : ℕ) → x < task_count z.system → is_free z x ≡ true → partial_tlevel z x ≡ tlevel z x
    free-arrival x x_in free =
        IsTlevel-same graph x (partial_tlevel z x) (tlevel z x)
        (tlevel_step graph x (partial_tlevel z x) (tlevel z) x_in (λ u u_in link. are.each u u_in) above reached)
        (are.each x x_in)
      where
        all : list_all (is_examined z) (predecessors z x) ≡ true
        all = (and-true (not (is_examined z x)) (list_all (is_examined z) (predecessors z x)) free).1

        new : is_examined z x ≡ false
        new = not-true (is_examined z x) (and-true (not (is_examined z x)) (list_all (is_examined z) (predecessors z x)) free).0

        above : (u : ℕ) → u < task_count z.system → IsEdge z.system u x ⊎ FollowsInSome z.clusters u x
            → tlevel z u + (cost_of z.system u + cond (same_cluster z.clusters u x) 0 (weight_of z.system u x)) ≤ partial_tlevel z x
        above u u_in link =
            let before = number-kept (λ a. has_edge z.system a x) (task_count z.system) u u_in (IsEdge-has_edge z.system u x (fresh-edge z.system z.clusters u x new link)) in
            let here = holds-list_all (is_examined z) (predecessors z x) u all before in
            let most = greatest-ge (arrival z x) (examined_predecessors z x) u (held-kept (is_examined z) (predecessors z x) u before here) in
            omega (arith, most, fresh-weight u x new)

        reached : (partial_tlevel z x ≡ 0) ⊎ ((u : ℕ) × (u < task_count z.system) × (IsEdge z.system u x ⊎ FollowsInSome z.clusters u x)
            × (tlevel z u + (cost_of z.system u + cond (same_cluster z.clusters u x) 0 (weight_of z.system u x)) ≡ partial_tlevel z x))
        reached = elim (greatest-reached (arrival z x) (examined_predecessors z x)) [
          | inl none ↦ inl none
          | inr (u, held, is) ↦
              let (before, here) = kept-held (is_examined z) (predecessors z x) u held in
              let (u_in, test) = kept-number (λ a. has_edge z.system a x) (task_count z.system) u before in
              inr (u, u_in, inl (has_edge-IsEdge z.system u x test), omega (arith, is, fresh-weight u x new))
        ]

-- some number is the parallel time
pub time-exists : (z : State) → 0 < task_count z.system → AreTlevels z.system z.clusters z.tlevels
    → IsParallelTime (scheduled_graph z.system z.clusters) (greatest (finish z) (all_tasks z))
time-exists z some are =
    IsParallelTime-from_tlevels (scheduled_graph z.system z.clusters) (tlevel z) (greatest (finish z) (all_tasks z)) are.each
    below
    (elim (greatest-reached (finish z) (all_tasks z)) [
      | inl none ↦ (let least : finish z 0 ≤ greatest (finish z) (all_tasks z) = below 0 some in (0, some, omega (arith, none, least)))
      | inr (t, held, is) ↦ (t, held-number (task_count z.system) t held, is)
    ])
  where
    below : (t : ℕ) → t < task_count z.system → finish z t ≤ greatest (finish z) (all_tasks z)
    below t t_in = greatest-ge (finish z) (all_tasks z) t (number-held (task_count z.system) t t_in)

-- so the greatest of the three is
pub three-is_time : (z : State) (order : List ℕ) → 0 < task_count z.system → IsTopological (task_count z.system) (IsEdge z.system) order
    → AreBlevels z.system z.blevels → AreTlevels z.system z.clusters z.tlevels → IsClosed z.system z.clusters
    → IsParallelTime (scheduled_graph z.system z.clusters) (greatest_of_three z)
three-is_time z order some top bottom are closed =
    let total = time-exists z some are in
    rw (time-of_three z order top bottom are closed (greatest (finish z) (all_tasks z)) total) at total

pub time_is_of_three : (s : System) (order blevels : List ℕ) (steps : List Step) (clusters : List (List ℕ)) (tlevels : List ℕ) (time : ℕ)
    → IsTopological (task_count s) (IsEdge s) order → AreBlevels s blevels → AreSteps s blevels [] steps clusters
    → AreTlevels s clusters tlevels → IsParallelTime (scheduled_graph s clusters) time
    → time ≡ greatest_of_three (state s blevels clusters tlevels)
time_is_of_three s order blevels steps clusters tlevels time top bottom steps_are are total =
    time-of_three (state s blevels clusters tlevels) order top bottom are (IsClosed-run s blevels steps clusters steps_are) time total
