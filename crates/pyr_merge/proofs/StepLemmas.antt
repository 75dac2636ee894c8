-- One more cluster goes to its processor.
use Rattle.std.proofs.Common.{◌≡◌, ℕ, suc, ◌+◌, ◌<◌, false, cond, List, [], ◌∷◌, ◌++◌, inl, inr, arith, ◌∙◌, length, get_or, take, set, add-one}
use Rattle.std.specs.Prelude.{nat_eq, All, Contains, slice_index}
use Rattle.std.specs.List.{list_any}
use Rattle.std.proofs.lemmas.Bool.{cases_Bool, cases_eq}
use Rattle.std.proofs.lemmas.List.{get_or-map, length-map, get_or_default, get_or_append_left, get_or_at, take_more, length-take-le}
use Rattle.std.proofs.lemmas.List.Sums.{sum_by-set, sum_by_more}
use Rattle.std.proofs.Math.ListN.{length-set}
use Rattle.pyr_num.specs.declared.ids.ProcId.{ProcId}
use Rattle.pyr_num.specs.declared.ids.TaskId.{TaskId}
use Rattle.pyr_graph.specs.System.{System, task_numbers}
use Rattle.pyr_graph.specs.Clusters.{cluster_numbers, IsPartition}
use Rattle.pyr_graph.proofs.ListLemmas.{Contains-tested, tested-Contains}
use Rattle.pyr_merge.specs.declared.weighed.Weighed.{Weighed}
use Rattle.pyr_merge.specs.Merge.{tasks_of, load_of, ComesBefore, IsByFallingLoad, IsLeastLoaded}
use Rattle.pyr_merge.specs.Weighed.{numbers_of, placed_on}
use Rattle.pyr_merge.proofs.PartLemmas.{once, one-cluster}
use Rattle.pyr_merge.proofs.DealLemmas.{IsDealing, IsDealt-push, length-targets}

-- the number of the cluster at a place of the order
pub number-at : (order : List Weighed) (i : ℕ) (d : Weighed) → i < length order → slice_index (numbers_of order) i ≡ (get_or order i d).cluster
number-at order i d inside = get_or-map (λ (w : Weighed). w.cluster) order i d 0 inside

number-inside : (order : List Weighed) (n i : ℕ) (d : Weighed) → All (λ k. k < n) (numbers_of order) → i < length order → (get_or order i d).cluster < n
number-inside order n i d all inside =
    rw (number-at order i d inside) at (all i 0 (simp length-map inside))

-- and it is the number of a cluster
pub next-inside : (clusters : List (List TaskId)) (order items : List Weighed) (i : ℕ) (d : Weighed) → order ≡ items → i < length order
    → All (λ k. k < length (cluster_numbers clusters)) (numbers_of items) → (get_or order i d).cluster < length clusters
next-inside clusters order items i d same inside all =
    let less = number-inside order (length (cluster_numbers clusters)) i d (rw same all) inside in
    omega (arith, less, length-map clusters task_numbers)

-- a cluster doesn't come before itself
never-itself : (s : System) (clusters : List (List ℕ)) (a : ℕ) → ComesBefore s clusters a a → ⊥
never-itself s clusters a (inl less) = omega arith
never-itself s clusters a (inr (same, less)) = omega arith

module _ (s : System) (clusters : List (List ℕ)) (processors : ℕ) (order : List Weighed) (i : ℕ) (d : Weighed)
    (part : IsPartition s clusters) (falling : IsByFallingLoad s clusters (numbers_of order))
    (known : All (λ w. w.load.0 ≡ load_of s clusters w.cluster) order) (i_in : i < length order)
    (p : ℕ) (row : List ℕ) (is_row : tasks_of clusters (get_or order i d).cluster ≡ row) where
  -- no task of this cluster is in an earlier one
  apart-before : (j t : ℕ) → j < i → Contains (tasks_of clusters (slice_index (numbers_of order) j)) t → list_any (nat_eq t) row ≡ false
  apart-before j t less held = elim (cases_Bool (list_any (nat_eq t) row)) [
    | inr none ↦ none
    | inl here ↦
        let held' : Contains (tasks_of clusters (get_or order i d).cluster) t = rw is_row (Contains-tested t row here) in
        let same = one-cluster clusters t (once s clusters part t) (slice_index (numbers_of order) j) (get_or order i d).cluster held held' in
        let before = falling.falling j i 0 less (simp length-map i_in) in
        let itself : ComesBefore s clusters (get_or order i d).cluster (get_or order i d).cluster = rw (number-at order i d i_in, same) at before in
        absurd (never-itself s clusters (get_or order i d).cluster itself)
  ]

  module _ (loads : List ℕ) (of new : List ProcId) (dealing : IsDealing s clusters processors order i loads of)
      (least : IsLeastLoaded loads p) (full : length new ≡ length of)
      (placed : (t : ℕ) → placed_on new t ≡ cond (list_any (nat_eq t) row) p (placed_on of t)) where
    targets_full : length dealing.targets ≡ i
    targets_full =
        length-targets (load_of s clusters) _ (take i (numbers_of order)) dealing.targets loads dealing.dealt
        ∙ length-take-le i (numbers_of order) (simp length-map (omega arith))

    tasks-placed : (j t : ℕ) → j < suc i → Contains (tasks_of clusters (slice_index (numbers_of order) j)) t
        → placed_on new t ≡ slice_index (dealing.targets ++ p ∷ []) j
    tasks-placed j t less held = elim (cases_eq j i) [
      | inl same ↦
          let held' : Contains row t = rw (same, number-at order i d i_in, is_row) at held in
          placed t ∙ rw (tested-Contains t row held', same, get_or_at dealing.targets p [] 0 i targets_full)
      | inr other ↦
          let before : j < i = omega arith in
          placed t ∙ rw (apart-before j t before held, dealing.tasks j t before held, get_or_append_left dealing.targets (p ∷ []) 0 j (omega (arith, targets_full)))
    ]

    all-inside : All (λ q. q.0 < processors) new
    all-inside k e inside =
        let zero_default = get_or_default new k e (record { 0 = 0 }) inside in
        rw (zero_default, placed k) (elim (cases_Bool (list_any (nat_eq k) row)) [
          | inl here ↦ rw here (omega (arith, least.inside, dealing.loads_full))
          | inr none ↦ rw none (dealing.inside k (record { 0 = 0 }) (omega arith))
        ])

    pub IsDealing-step : (loads' : List ℕ) → loads' ≡ set loads p (slice_index loads p + (get_or order i d).load.0)
        → IsDealing s clusters processors order (suc i) loads' new
    IsDealing-step loads' are = record {
      targets = dealing.targets ++ p ∷ [];
      dealt =
          let load = known i d i_in in
          let more : take (suc i) (numbers_of order) ≡ take i (numbers_of order) ++ (get_or order i d).cluster ∷ [] =
          (rw add-one at (take_more (numbers_of order) i 0 (simp length-map i_in))) ∙ rw (number-at order i d i_in) in
          rw (more, are, load)
          (IsDealt-push (load_of s clusters) _ (take i (numbers_of order)) dealing.targets loads (get_or order i d).cluster p dealing.dealt least);
      full = full ∙ dealing.full;
      loads_full = rw (are, length-set {A = ℕ}) dealing.loads_full;
      loads_sum =
          let set-sum = sum_by-set (λ (x : ℕ). x) loads p (slice_index loads p + (get_or order i d).load.0) 0 least.inside in
          let more-sum = rw add-one at (sum_by_more (λ (w : Weighed). w.load.0) order i d i_in) in
          rw are (omega (arith, set-sum, more-sum, dealing.loads_sum));
      tasks = tasks-placed;
      inside = all-inside;
    }
