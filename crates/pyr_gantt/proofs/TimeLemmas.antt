-- The greatest finish.
use Rattle.std.proofs.Common.{ℕ, zero, suc, ◌≤◌, max, List, [], ◌∷◌, inl, inr, arith}
use Rattle.std.specs.Prelude.{fold, slice_index}
use Rattle.std.proofs.lemmas.Bool.{cases_lt}
use Rattle.std.proofs.lemmas.List.{get_or_past}
use Rattle.pyr_graph.specs.declared.placement.Placement.{Placement}
use Rattle.pyr_graph.specs.declared.plan.Plan.{Plan}
use Rattle.pyr_graph.specs.System.{System, task_count}
use Rattle.pyr_graph.specs.WholeGraph.{IsGraph}
use Rattle.pyr_levels.specs.Levels.{longest}
use Rattle.pyr_rcp.specs.Order.{IsPlaced, IsOrdered}
use Rattle.pyr_rcp.proofs.PlanLemmas.{finish-small}
use Rattle.pyr_gantt.specs.Gantt.{start_of, finish_of}
use Rattle.pyr_gantt.specs.Bars.{IsTimed}

fold-ge : (m : ℕ) (xs : List ℕ) → m ≤ fold (λ most x. max most x) m xs
fold-ge m [] = omega arith
fold-ge m (x ∷ xs) = omega (arith, fold-ge (max m x) xs)

fold-at : (m : ℕ) (xs : List ℕ) (i : ℕ) → slice_index xs i ≤ fold (λ most x. max most x) m xs
fold-at m [] i = omega arith
fold-at m (x ∷ xs) zero = omega (arith, fold-ge (max m x) xs)
fold-at m (x ∷ xs) (suc i) = fold-at (max m x) xs i

fold-le : (b m : ℕ) (xs : List ℕ) → m ≤ b → ((i : ℕ) → slice_index xs i ≤ b) → fold (λ most x. max most x) m xs ≤ b
fold-le b m [] low each = low
fold-le b m (x ∷ xs) low each = fold-le b (max m x) xs (omega (arith, each 0)) (λ i. each (suc i))

-- the plan of a placement is timed
module _ (s : System) (placement : Placement) (plan : Plan) (graph : IsGraph s) (placed : IsPlaced s placement) (is : IsOrdered s placement plan) where
  in-order : (t : ℕ) → start_of plan t ≤ finish_of plan t
  in-order t = elim (cases_lt t (task_count s)) [
    | inl inside ↦ omega (arith, is.finishes t inside)
    | inr past ↦ omega (arith, get_or_past plan.start t 0 (omega (arith, is.starts_full)))
  ]

  pub IsTimed-from_ordered : IsTimed (task_count s) placement plan
  IsTimed-from_ordered = record {
    placed = placed.full;
    starts = is.starts_full;
    finishes = is.finishes_full;
    below = placed.below;
    in_order = in-order;
    late = λ t. fold-at 0 plan.finish t;
    small = fold-le longest 0 plan.finish (omega arith) (λ t. finish-small s placement plan is graph.limits t);
    some =
        let cost = graph.limits.least_costs 0 (record { cost = 0; reads = []; writes = [] }) graph.some_task in
        omega (arith, cost, is.finishes 0 graph.some_task, fold-at 0 plan.finish 0);
  }
