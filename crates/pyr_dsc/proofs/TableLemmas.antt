-- What the tables of a partial clustering tell of the state in which the next step begins.
use Rattle.std.proofs.Common.{◌≡◌, ℕ, ◌<◌, ◌≤◌, true, false, Option, Some, None, List, inl, inr, refl, arith, sym, ◌∙◌}
use Rattle.std.specs.Prelude.{not, slice_index}
use Rattle.std.specs.List.{list_all}
use Rattle.pyr_graph.specs.System.{System, task_count}
use Rattle.pyr_graph.specs.Bounds.{IsWithinLimits}
use Rattle.pyr_graph.specs.Edges.{has_edge}
use Rattle.pyr_graph.proofs.IndexLemmas.{edge_from}
use Rattle.pyr_graph.proofs.ListLemmas.{tested-Contains}
use Rattle.pyr_graph.proofs.NumberLemmas.{kept-number, number-kept, holds-list_all, list_all-holds, kept-held, greatest-ge, greatest-low}
use Rattle.pyr_graph.proofs.SenderLemmas.{IsEdge-has_edge, has_edge-IsEdge}
use Rattle.pyr_levels.specs.Levels.{latest}
use Rattle.pyr_levels.specs.Scheduled.{AreTlevels, last_of}
use Rattle.pyr_levels.specs.Partial.{Clustered, IsPartialOf, IsExamined, IsNext, IsArrival, cluster_tasks, clusters_of, examined, end_by, end_in}
use Rattle.pyr_levels.proofs.Unique.{IsTlevel-same}
use Rattle.pyr_levels.proofs.RowsLemmas.{cluster-at}
use Rattle.pyr_levels.proofs.ClusterLemmas.{is_examined-some, examined-cluster_in, and-true, both-true}
use Rattle.pyr_levels.proofs.OthersLemmas.{examined-from_test, new-from_test}
use Rattle.pyr_levels.proofs.KeptLemmas.{standing, examined-task, last-examined, finish-level, finish-small, arrival-small}
use Rattle.pyr_levels.proofs.ArrivalLemmas.{IsTlevel-arrival}
use Rattle.pyr_dsc.specs.State.{State, tlevel, finish, predecessors, examined_predecessors, is_examined, is_free, arrival, partial_tlevel, end_after, end_of}
use Rattle.pyr_dsc.specs.Run.{state}
use Rattle.pyr_dsc.proofs.HeldLemmas.{not-true, held-kept}
use Rattle.pyr_dsc.proofs.ClosedLemmas.{IsClosed}

module _ (s : System) (c : Clustered) (of : IsPartialOf s c) (blevels tlevels : List ℕ) (are : AreTlevels s (clusters_of c) tlevels) where
  abbrev z : State
  z = state s blevels (clusters_of c) tlevels

  -- the tasks that are examined
  pub in-partial : (u : ℕ) → is_examined z u ≡ true → IsExamined c u
  in-partial u is = examined-from_test c u (sym (is_examined-some s c of u) ∙ is)

  pub new-partial : (u : ℕ) → is_examined z u ≡ false → IsExamined c u → ⊥
  new-partial u new = new-from_test c u (sym (is_examined-some s c of u) ∙ new)

  pub partial-in : (u : ℕ) → IsExamined c u → is_examined z u ≡ true
  partial-in u held = is_examined-some s c of u ∙ (sym (examined-cluster_in c.placed u) ∙ tested-Contains u (examined c.placed) held)

  pub IsClosed-partial : IsClosed s (clusters_of c)
  IsClosed-partial a b edge here = partial-in a (of.closed b a (in-partial b here) edge)

  pub examined-in : (u : ℕ) → is_examined z u ≡ true → u < task_count s
  examined-in u is = examined-task s c (standing s c of) u (in-partial u is)

  -- their starts and finishes, and the ends of the clusters
  pub tlevel-kept : (u : ℕ) → is_examined z u ≡ true → tlevel z u ≡ slice_index c.levels u
  tlevel-kept u is = IsTlevel-same _ u (tlevel z u) (slice_index c.levels u) (are.each u (examined-in u is)) (of.kept.starts u (in-partial u is))

  pub finish-kept : (u : ℕ) → is_examined z u ≡ true → slice_index c.finishes u ≡ finish z u
  finish-kept u is = finish-level s c of u (in-partial u is) tlevels are

  pub end-kept : (k : ℕ) → k < c.opened → end_in c k ≡ end_of z k
  end-kept k inside = rw (cluster-at c k inside) (by (last_of (cluster_tasks c.placed k)) refl)
    where
      by : (o : Option ℕ) → last_of (cluster_tasks c.placed k) ≡ o → end_by c.finishes o ≡ end_after z o
      by None last = refl
      by (Some u) last = finish-level s c of u (last-examined s c (standing s c of) k u last).0 tlevels are

  -- no finish and no arrival is late
  module _ (limits : IsWithinLimits s) where
    pub finish-low : (u : ℕ) → is_examined z u ≡ true → slice_index c.finishes u ≤ latest
    finish-low u is =
        let stood = standing s c of in
        omega (arith, finish-small s c stood limits u (in-partial u is), stood.few, limits.tasks)

    pub arrival-low : (t : ℕ) → t < task_count s → is_examined z t ≡ false → slice_index c.levels t ≤ latest
    arrival-low t t_in new =
        let stood = standing s c of in
        omega (arith, arrival-small s c stood limits t (slice_index c.levels t) (of.kept.arrivals t t_in (new-partial t new)), stood.few, limits.tasks)

  -- a free task may be examined, and conversely
  pub free-next : (x : ℕ) → x < task_count s → is_free z x ≡ true → IsNext s c x
  free-next x x_in free =
      let (new, all) = and-true (not (is_examined z x)) (list_all (is_examined z) (predecessors z x)) free in
      record {
        task = x_in;
        new = new-partial x (not-true (is_examined z x) new);
        free = λ a edge.
            let before = number-kept (λ b. has_edge s b x) (task_count s) a (edge_from s a x edge) (IsEdge-has_edge s a x edge) in
            in-partial a (holds-list_all (is_examined z) (predecessors z x) a all before);
      }

  pub next-all : (x : ℕ) → IsNext s c x → list_all (is_examined z) (predecessors z x) ≡ true
  next-all x next = list_all-holds (is_examined z) (predecessors z x) (λ a held.
      partial-in a (next.free a (has_edge-IsEdge s a x (kept-number (λ b. has_edge s b x) (task_count s) a held).1)))

  pub all-next : (x : ℕ) → x < task_count s → is_examined z x ≡ false → list_all (is_examined z) (predecessors z x) ≡ true → IsNext s c x
  all-next x x_in new all = free-next x x_in (both-true (not (is_examined z x)) (list_all (is_examined z) (predecessors z x)) (rw new) all)

  -- the arrival at a free task is its top level
  pub free-kept : (x : ℕ) → x < task_count s → is_free z x ≡ true → slice_index c.levels x ≡ tlevel z x
  free-kept x x_in free =
      let next = free-next x x_in free in
      IsTlevel-same _ x (slice_index c.levels x) (tlevel z x) (IsTlevel-arrival s c x of next (slice_index c.levels x) (of.kept.arrivals x x_in next.new)) (are.each x x_in)

  -- and that at any task that isn't examined is its partial top level
  pub arrival-kept : (y : ℕ) → y < task_count s → is_examined z y ≡ false → slice_index c.levels y ≡ partial_tlevel z y
  arrival-kept y y_in new =
      let is = of.kept.arrivals y y_in (new-partial y new) in
      omega (arith, least is, most is)
    where
      most : IsArrival s c y (slice_index c.levels y) → partial_tlevel z y ≤ slice_index c.levels y
      most is = greatest-low (arrival z y) (slice_index c.levels y) (examined_predecessors z y) (λ u held.
          let (before, here) = kept-held (is_examined z) (predecessors z y) u held in
          let (u_in, test) = kept-number (λ a. has_edge s a y) (task_count s) u before in
          let below = is.above u (in-partial u here) (has_edge-IsEdge s u y test) in
          omega (arith, below, finish-kept u here))

      least : IsArrival s c y (slice_index c.levels y) → slice_index c.levels y ≤ partial_tlevel z y
      least is = elim is.reached [
        | inl none ↦ omega (arith, none)
        | inr (u, held, edge, same) ↦
            let here = partial-in u held in
            let before = number-kept (λ a. has_edge s a y) (task_count s) u (edge_from s u y edge) (IsEdge-has_edge s u y edge) in
            let below = greatest-ge (arrival z y) (examined_predecessors z y) u (held-kept (is_examined z) (predecessors z y) u before here) in
            omega (arith, below, same, finish-kept u here)
      ]
