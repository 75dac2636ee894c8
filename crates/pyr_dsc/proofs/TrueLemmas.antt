-- The top levels that the rules speak of are those of the scheduled graph.
use Rattle.std.proofs.Common.{◌≡◌, ℕ, zero, suc, ◌+◌, ◌-◌, ◌<◌, ◌≤◌, false, cond, List, [], ◌∷◌, ◌⊎◌, inl, inr, refl, arith, ap, ◌∙◌, length, length-append}
use Rattle.std.specs.Prelude.{filter, slice_index, is_some}
use Rattle.std.proofs.lemmas.Bool.{cases_Bool, cases_lt}
use Rattle.std.proofs.lemmas.List.{length-map, get_or-map, get_or_append_left, get_or-append_right}
use Rattle.pyr_seq.specs.Walk.{IsTopological}
use Rattle.pyr_graph.specs.System.{System, task_count, cost_of, weight_of, IsEdge}
use Rattle.pyr_graph.specs.Numbers.{numbers, greatest}
use Rattle.pyr_graph.specs.Edges.{has_edge}
use Rattle.pyr_graph.proofs.IndexLemmas.{edge_from}
use Rattle.pyr_graph.proofs.NumberLemmas.{kept-number, number-kept, greatest-ge, greatest-reached}
use Rattle.pyr_graph.proofs.SenderLemmas.{IsEdge-has_edge, has_edge-IsEdge}
use Rattle.pyr_levels.specs.Path.{Weighted, IsTlevel}
use Rattle.pyr_levels.specs.Scheduled.{scheduled_graph, AreTlevels, FollowsInSome, same_cluster}
use Rattle.pyr_levels.specs.Partial.{Clustered, IsPartialOf, clusters_of, cluster_in}
use Rattle.pyr_levels.proofs.Places.{place_of}
use Rattle.pyr_levels.proofs.ClusterLemmas.{is_examined-some}
use Rattle.pyr_levels.proofs.OthersLemmas.{examined-from_test}
use Rattle.pyr_levels.proofs.TlevelLemmas.{tlevel_step}
use Rattle.pyr_dsc.specs.Progress.{true_level, true_levels}
use Rattle.pyr_dsc.proofs.ClosedLemmas.{is_in_some, fresh-apart, fresh-edge}

-- a list by number
length-numbers : (n : ℕ) → length (numbers n) ≡ n
length-numbers zero = refl
length-numbers (suc n) = length-append (numbers n) (n ∷ []) ∙ omega (arith, length-numbers n)

number-at : (n t : ℕ) → t < n → slice_index (numbers n) t ≡ t
number-at zero t inside = absurd (omega arith)
number-at (suc n) t inside = elim (cases_lt t n) [
  | inl less ↦ get_or_append_left (numbers n) (n ∷ []) 0 t (omega (arith, less, length-numbers n)) ∙ number-at n t less
  | inr more ↦
      let same : t ≡ n = omega (arith, more, inside) in
      rw same (get_or-append_right (numbers n) (n ∷ []) n n 0 (length-numbers n) (omega arith) ∙ last n)
]
  where
    last : (n : ℕ) → slice_index (n ∷ []) (n - n) ≡ n
    last n = let none : n - n ≡ 0 = omega arith in rw none

module _ (s : System) (c : Clustered) (of : IsPartialOf s c) (order : List ℕ) (top : IsTopological (task_count s) (IsEdge s) order) where
  abbrev graph : Weighted
  graph = scheduled_graph s (clusters_of c)

  -- what stands before one that isn't examined, from the levels of its predecessors
  module _ (t : ℕ) (t_in : t < task_count s) (new : is_in_some (clusters_of c) t ≡ false) (level : ℕ → ℕ)
      (levels : (u : ℕ) → IsEdge s u t → IsTlevel graph u (level u))
    where
      abbrev arrives : ℕ → ℕ
      arrives u = level u + (cost_of s u + weight_of s u t)

      abbrev latest : ℕ
      latest = greatest arrives (filter (λ a. has_edge s a t) (numbers (task_count s)))

      over : (u : ℕ) → level u + (cost_of s u + cond (same_cluster (clusters_of c) u t) 0 (weight_of s u t)) ≡ arrives u
      over u = rw (fresh-apart (clusters_of c) u t new)

      above : (u : ℕ) → u < task_count s → IsEdge s u t ⊎ FollowsInSome (clusters_of c) u t
          → level u + (cost_of s u + cond (same_cluster (clusters_of c) u t) 0 (weight_of s u t)) ≤ latest
      above u u_in link =
          let edge = IsEdge-has_edge s u t (fresh-edge s (clusters_of c) u t new link) in
          let most = greatest-ge arrives (filter (λ a. has_edge s a t) (numbers (task_count s))) u (number-kept (λ a. has_edge s a t) (task_count s) u u_in edge) in
          omega (arith, most, over u)

      reached : (latest ≡ 0) ⊎ ((u : ℕ) × (u < task_count s) × (IsEdge s u t ⊎ FollowsInSome (clusters_of c) u t)
          × (level u + (cost_of s u + cond (same_cluster (clusters_of c) u t) 0 (weight_of s u t)) ≡ latest))
      reached = elim (greatest-reached arrives (filter (λ a. has_edge s a t) (numbers (task_count s)))) [
        | inl none ↦ inl none
        | inr (u, held, is) ↦
            let (u_in, test) = kept-number (λ a. has_edge s a t) (task_count s) u held in
            inr (u, u_in, inl (has_edge-IsEdge s u t test), over u ∙ is)
      ]

      IsTlevel-new : IsTlevel graph t latest
      IsTlevel-new = tlevel_step graph t latest level t_in (λ u u_in link. levels u (fresh-edge s (clusters_of c) u t new link)) above reached

  IsTlevel-true : (n i : ℕ) → i < n → i < task_count s → IsTlevel graph (slice_index order i) (true_level s c n (slice_index order i))
  IsTlevel-true zero i less i_in = absurd (omega arith)
  IsTlevel-true (suc n) i less i_in = elim (cases_Bool (is_some (cluster_in c.placed (slice_index order i)))) [
    | inl is ↦ rw is (of.kept.starts (slice_index order i) (examined-from_test c (slice_index order i) is))
    | inr new ↦
        let t_in : slice_index order i < task_count s = top.tasks i 0 (omega (arith, top.full)) in
        let none : is_in_some (clusters_of c) (slice_index order i) ≡ false = is_examined-some s c of (slice_index order i) ∙ new in
        rw new (IsTlevel-new (slice_index order i) t_in none (true_level s c n) (λ u edge.
        let (j, j_in, there) = place_of (task_count s) (IsEdge s) order top u (edge_from s u (slice_index order i) edge) in
        let earlier : j < i = top.before j i j_in i_in (rw there edge) in
        rw there at (IsTlevel-true n j (omega (arith, earlier, less)) j_in)))
  ]

  pub AreTlevels-true : AreTlevels s (clusters_of c) (true_levels s c)
  AreTlevels-true = record {
    full = length-map (numbers (task_count s)) (true_level s c (task_count s)) ∙ length-numbers (task_count s);
    each = λ t t_in.
        let (i, i_in, here) = place_of (task_count s) (IsEdge s) order top t t_in in
        let level : IsTlevel graph t (true_level s c (task_count s) t) = rw here at (IsTlevel-true (task_count s) i i_in i_in) in
        rw (true-at t t_in) level;
  }
    where
      true-at : (t : ℕ) → t < task_count s → slice_index (true_levels s c) t ≡ true_level s c (task_count s) t
      true-at t t_in =
          get_or-map (true_level s c (task_count s)) (numbers (task_count s)) t 0 0 (omega (arith, t_in, length-numbers (task_count s)))
          ∙ ap (true_level s c (task_count s)) (number-at (task_count s) t t_in)
