-- The value of a task, from those of its successors, and how great it is.
use Rattle.std.proofs.Common.{◌≡◌, ℕ, ◌+◌, ◌*◌, ◌<◌, ◌≤◌, ◌⊎◌, inl, inr, List, [], ◌∷◌, arith}
use Rattle.std.specs.Prelude.{slice_index, Any, All}
use Rattle.pyr_num.specs.declared.limits.TheConstants.Limits.{TASKS}
use Rattle.pyr_seq.specs.Walk.{IsTopological}
use Rattle.pyr_graph.specs.declared.edge.Edge.{Edge}
use Rattle.pyr_graph.specs.System.{System, task_count, IsEdge, AreSuccessors}
use Rattle.pyr_levels.specs.Path.{IsPath, path_sum, IsBlevel}
use Rattle.pyr_levels.specs.Levels.{longest}
use Rattle.pyr_levels.proofs.Places.{place_of}
use Rattle.pyr_levels.proofs.Paths.{IsPath-head, blevel_step}
use Rattle.pyr_simul.specs.declared.durations.Durations.{Durations}
use Rattle.pyr_num.specs.declared.limits.TheConstants.Limits.{TIME}
use Rattle.pyr_simul.specs.Durations.{time_of}
use Rattle.pyr_simul.specs.Bound.{timed_graph}

-- the value that an edge leads to
abbrev pub value_at : List ℕ → Edge → ℕ
value_at values e = slice_index values e.task.0

module _ (s : System) (d : Durations) (t m : ℕ) (values : List ℕ) (edges : List Edge) (are : AreSuccessors s t edges) where
  above_link : All (λ e. value_at values e ≤ m) edges → (u : ℕ) → u < task_count s → IsEdge s t u → 0 + slice_index values u ≤ m
  above_link above u u_in link =
      let (k, e, inside, here, is) = are.complete u u_in link in
      let most = rw here at (above k e inside) in
      let most' : slice_index values u ≤ m = rw is at most in
      omega (arith, most')

  reached_link : (m ≡ 0) ⊎ Any (λ e. value_at values e ≡ m) edges
      → (m ≡ 0) ⊎ ((u : ℕ) × (u < task_count s) × IsEdge s t u × (0 + slice_index values u ≡ m))
  reached_link (inl none) = inl none
  reached_link (inr (k, e, inside, here, is)) =
      let known = rw here at (are.sound k e inside) in
      inr (e.task.0, known.0, known.1, omega (arith, is))

  pub IsBlevel-from_values :
      t < task_count s
      → ((u : ℕ) → u < task_count s → IsEdge s t u → IsBlevel (timed_graph s d) u (slice_index values u))
      → All (λ e. value_at values e ≤ m) edges
      → (m ≡ 0) ⊎ Any (λ e. value_at values e ≡ m) edges
      → IsBlevel (timed_graph s d) t (time_of d t + m)
  IsBlevel-from_values t_in later above reached = blevel_step (timed_graph s d) t m (slice_index values) t_in later (above_link above) (reached_link reached)

module _ (s : System) (d : Durations) (order : List ℕ) (few : task_count s ≤ TASKS) (times : (t : ℕ) → time_of d t ≤ TIME)
    (top : IsTopological (task_count s) (IsEdge s) order) where
  path_sum-bound : (t : ℕ) (rest : List ℕ) (i : ℕ) → i < task_count s → slice_index order i ≡ t
      → IsPath (timed_graph s d) (t ∷ rest)
      → path_sum (timed_graph s d) (t ∷ rest) + i * TIME ≤ task_count s * TIME
  path_sum-bound t [] i i_in here path = omega (arith, times t)
  path_sum-bound t (u ∷ rest) i i_in here path =
      let (j, j_in, there) = place_of (task_count s) (IsEdge s) order top u (IsPath-head (timed_graph s d) u rest path.2) in
      let later : i < j = top.before i j i_in j_in (rw (here, there) path.1) in
      omega (arith, path_sum-bound u rest j j_in there path.2, times t, later)

  -- a value is small
  pub value-bound : (t value : ℕ) → t < task_count s → IsBlevel (timed_graph s d) t value → value ≤ longest
  value-bound t value t_in is =
      let (rest, path, sum) = is.reached in
      let (i, i_in, here) = place_of (task_count s) (IsEdge s) order top t t_in in
      omega (arith, path_sum-bound t rest i i_in here path, sum, few)
