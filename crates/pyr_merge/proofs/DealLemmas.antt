-- The clusters that went to processors so far.
use Rattle.std.proofs.Common.{◌≡◌, ℕ, suc, ◌+◌, ◌<◌, ◌≤◌, ◌^◌, List, [], ◌∷◌, ◌++◌, refl, sym, ap, ◌∙◌, arith, length, get_or, take}
use Rattle.std.specs.Prelude.{All, Contains, replicate, slice_index, sum, sum_by}
use Rattle.std.proofs.lemmas.List.{length-replicate, length-map, take_all}
use Rattle.std.proofs.lemmas.List.Elements.{All-same, All-replicate}
use Rattle.std.proofs.lemmas.List.Folds.{sum_by-replicate}
use Rattle.std.proofs.lemmas.List.Sums.{get_or-le-sum_by, sum_by_more_le}
use Rattle.pyr_num.specs.declared.ids.ProcId.{ProcId}
use Rattle.pyr_graph.specs.System.{System, task_count}
use Rattle.pyr_merge.specs.declared.weighed.Weighed.{Weighed}
use Rattle.pyr_merge.specs.Merge.{tasks_of, load_of, IsByFallingLoad, IsLeastLoaded, with_load, IsDealt, IsMerged}
use Rattle.pyr_merge.specs.Weighed.{numbers_of, placed_on}

-- one more cluster
pub IsDealt-push : (load : ℕ → ℕ) (before order targets after : List ℕ) (k p : ℕ)
    → IsDealt load before order targets after → IsLeastLoaded after p
    → IsDealt load before (order ++ k ∷ []) (targets ++ p ∷ []) (with_load after p (load k))
IsDealt-push load before [] [] after k p same least = rw same (least, refl)
IsDealt-push load before [] (q ∷ targets) after k p never least = absurd never
IsDealt-push load before (j ∷ order) [] after k p never least = absurd never
IsDealt-push load before (j ∷ order) (q ∷ targets) after k p (here, more) least =
    (here, IsDealt-push load (with_load before q (load j)) order targets after k p more least)

-- each cluster has its processor
pub length-targets : (load : ℕ → ℕ) (before order targets after : List ℕ) → IsDealt load before order targets after → length targets ≡ length order
length-targets load before [] [] after same = refl
length-targets load before [] (q ∷ targets) after never = absurd never
length-targets load before (j ∷ order) [] after never = absurd never
length-targets load before (j ∷ order) (q ∷ targets) after (here, more) =
    ap suc (length-targets load (with_load before q (load j)) order targets after more)

-- the first i clusters of the order went to processors
pub record IsDealing (s : System) (clusters : List (List ℕ)) (processors : ℕ) (order : List Weighed) (i : ℕ) (loads : List ℕ) (of : List ProcId) : Type 0 where
  pub targets : List ℕ
  pub dealt : IsDealt (load_of s clusters) (replicate processors 0) (take i (numbers_of order)) targets loads
  pub full : length of ≡ task_count s
  pub loads_full : length loads ≡ processors
  pub loads_sum : sum loads ≡ sum_by (λ w. w.load.0) (take i order)
  pub tasks : (j t : ℕ) → j < i → Contains (tasks_of clusters (slice_index (numbers_of order) j)) t → placed_on of t ≡ slice_index targets j
  pub inside : All (λ p. p.0 < processors) of

module _ (s : System) (clusters : List (List ℕ)) (processors : ℕ) (order : List Weighed) where
  -- at first none did
  pub IsDealing-start : (loads : List ℕ) (of : List ProcId) → 1 ≤ processors → loads ≡ replicate processors 0
      → of ≡ replicate (task_count s) (record { 0 = 0 }) → IsDealing s clusters processors order 0 loads of
  IsDealing-start loads of some zeros firsts = record {
    targets = [];
    dealt = sym zeros;
    full = ap length firsts ∙ length-replicate (task_count s) _;
    loads_full = ap length zeros ∙ length-replicate processors 0;
    loads_sum = ap sum zeros ∙ (let none = sum_by-replicate (λ (x : ℕ). x) processors 0 in omega (arith, none));
    tasks = λ j t less held. absurd (let none : j < 0 = less in omega (arith, none));
    inside = All-same (λ p. p.0 < processors) of _ firsts (All-replicate (λ p. p.0 < processors) (task_count s) _ some);
  }

  -- the load of one more cluster fits beside any
  pub IsDealing-room : (i p : ℕ) (d : Weighed) (loads : List ℕ) (of : List ProcId) → IsDealing s clusters processors order i loads of
      → i < length order → p < length loads → sum_by (λ w. w.load.0) order < 2 ^ 64 → get_or loads p 0 + (get_or order i d).load.0 < 2 ^ 64
  IsDealing-room i p d loads of dealing inside p_in small =
      let some = get_or-le-sum_by (λ (x : ℕ). x) loads p 0 p_in in
      let more = sum_by_more_le (λ (w : Weighed). w.load.0) order i d inside in
      omega (arith, some, more, small, dealing.loads_sum)

  -- in the end all did, and the clusters are merged
  pub IsMerged-from_dealing : (i : ℕ) (items : List Weighed) (loads : List ℕ) (of : List ProcId) → IsDealing s clusters processors order i loads of
      → length order ≤ i → order ≡ items → IsByFallingLoad s clusters (numbers_of items) → IsMerged s clusters processors (record { processors = processors; of = of })
  IsMerged-from_dealing i items loads of dealing past same falling =
      let all = length-map order (λ (w : Weighed). w.cluster) in
      record {
        order = numbers_of order;
        by_load = rw same falling;
        targets = dealing.targets;
        loads = loads;
        dealt = rw (take_all i (numbers_of order) (omega (arith, all, past))) at dealing.dealt;
        count = refl;
        full = dealing.full;
        tasks = λ j t inside held. dealing.tasks j t (omega (arith, all, past, inside)) held;
      }
