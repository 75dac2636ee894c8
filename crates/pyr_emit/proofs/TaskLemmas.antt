-- The tasks of a bundle so far, and those of an order.
use Rattle.std.proofs.Common.{◌≡◌, ℕ, ◌+◌, ◌<◌, List, [], ◌∷◌, ◌++◌, length, get_or, inl, inr, sym, ap, ◌∙◌, subst, arith}
use Rattle.std.specs.Prelude.{All}
use Rattle.std.proofs.lemmas.Bool.{cases_lt}
use Rattle.std.proofs.lemmas.List.{get_or_append_left, get_or_push, get_or-map, length-map}
use Rattle.std.proofs.lemmas.List.Elements.{All-push, All-same}
use Rattle.pyr_num.specs.declared.ids.TaskId.{TaskId}
use Rattle.pyr_graph.specs.declared.placement.Placement.{Placement}
use Rattle.pyr_graph.specs.declared.plan.Plan.{Plan}
use Rattle.pyr_graph.specs.System.{System, task_count}
use Rattle.pyr_graphtext.specs.Program.{ProgramParts}
use Rattle.pyr_rcp.specs.Order.{IsOrdered}
use Rattle.pyr_rcp.proofs.PlanLemmas.{IsTopological-from_ordered}
use Rattle.pyr_bundle.specs.declared.raw_task.RawTask.{RawTask}
use Rattle.pyr_bundle.specs.Raw.{task_in}
use Rattle.pyr_emit.specs.Emission.{IsTaskOf}
use Rattle.pyr_emit.specs.Checked.{IsChecked}

-- one task more
pub tasks_more : (p : ProgramParts) (old new : List RawTask) (n : ℕ) (task : RawTask) → new ≡ old ++ task ∷ [] → length old ≡ n → ((t : ℕ) → t < n → IsTaskOf p t (task_in old t)) → IsTaskOf p n task
    → (t : ℕ) → t < n + 1 → IsTaskOf p t (task_in new t)
tasks_more p old new n task is full each last t inside = elim (cases_lt t n) [
  | inl less ↦ subst (IsTaskOf p t) (sym (ap (λ (l : List RawTask). task_in l t) is ∙ get_or_append_left old (task ∷ []) no_task t (omega (arith, less, full)))) (each t less)
  | inr past ↦ (
      let same : t ≡ n = omega (arith, past, inside) in
      let here = ap (task_in new) same ∙ ap (λ (l : List RawTask). task_in l n) is ∙ get_or_push old task no_task n full in
      subst (IsTaskOf p t) (sym here) (subst (λ k. IsTaskOf p k task) (sym same) last))
]
  where
    no_task : RawTask
    no_task = record { locals = 0; reads = []; writes = []; code = [] }

pub checked_more : (old new : List RawTask) (task : RawTask) → new ≡ old ++ task ∷ [] → All IsChecked old → IsChecked task → All IsChecked new
checked_more old new task is all last =
    All-same IsChecked new (old ++ task ∷ []) is (All-push IsChecked old task all last)

-- an order names tasks of its graph
pub order_below : (s : System) (placement : Placement) (plan : Plan) → IsOrdered s placement plan → (lent : List TaskId) → lent ≡ plan.order → (g : System) → g ≡ s
    → (k : ℕ) (d : TaskId) → k < length lent → (get_or lent k d).0 < task_count g
order_below s placement plan ordered lent is g same k d inside =
    let top = IsTopological-from_ordered s placement plan ordered in
    let n = ap length is in
    let m = length-map plan.order (λ (t : TaskId). t.0) in
    let k_in : k < length plan.order = omega (arith, inside, n) in
    let below = subst (λ t. t < task_count s) (get_or-map (λ (t : TaskId). t.0) plan.order k d 0 k_in) (top.tasks k 0 (omega (arith, k_in, m))) in
    subst (λ (l : List TaskId). (get_or l k d).0 < task_count g) (sym is) (subst (λ (x : System). (get_or plan.order k d).0 < task_count x) (sym same) below)
