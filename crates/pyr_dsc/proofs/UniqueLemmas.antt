-- A graph has one run.
use Rattle.std.proofs.Common.{◌≡◌, ℕ, ◌<◌, ◌≤◌, true, false, Some, List, [], ◌∷◌, refl, arith, ap, sym, ◌∙◌}
use Rattle.std.specs.Prelude.{not, slice_index}
use Rattle.std.specs.List.{list_all}
use Rattle.pyr_graph.specs.declared.clustering.Step.{Step}
use Rattle.pyr_graph.specs.declared.clustering.Clustering.{Clustering}
use Rattle.pyr_graph.specs.Clusters.{cluster_numbers}
use Rattle.pyr_graph.specs.System.{System, task_count}
use Rattle.pyr_graph.proofs.NumberLemmas.{each-number}
use Rattle.pyr_levels.specs.Path.{Weighted, IsParallelTime}
use Rattle.pyr_levels.specs.Levels.{task_graph, AreBlevels}
use Rattle.pyr_levels.specs.Scheduled.{scheduled_graph, AreTlevels, clusters_with}
use Rattle.pyr_levels.proofs.ClusterLemmas.{and-true}
use Rattle.pyr_levels.proofs.Unique.{IsBlevel-same, IsTlevel-same, same-list}
use Rattle.pyr_dsc.specs.State.{State, is_examined, predecessors}
use Rattle.pyr_dsc.specs.Rules.{IsStep, chosen, number_with, start_with}
use Rattle.pyr_dsc.specs.Run.{state, AreSteps, AllExamined, IsRun}
use Rattle.pyr_dsc.proofs.HeadLemmas.{next_free-free}

-- two numbers neither of which is above the other
same-number : (a b : ℕ) → a ≤ b → b ≤ a → a ≡ b
same-number a b le ge = omega arith

pub IsParallelTime-same : (g : Weighted) (a b : ℕ) → IsParallelTime g a → IsParallelTime g b → a ≡ b
IsParallelTime-same g a b one other =
    let (path, is, sum) = one.reached in
    let (path', is', sum') = other.reached in
    omega (arith, sum, sum', other.greatest path is, one.greatest path' is')

pub AreBlevels-same : (s : System) (xs ys : List ℕ) → AreBlevels s xs → AreBlevels s ys → xs ≡ ys
AreBlevels-same s xs ys one other = same-list xs ys (one.full ∙ sym other.full) (λ t inside.
    let t_in : t < task_count s = omega (arith, one.full) in
    IsBlevel-same (task_graph s) t (slice_index xs t) (slice_index ys t) (one.each t t_in) (other.each t t_in))

pub AreTlevels-same : (s : System) (clusters : List (List ℕ)) (xs ys : List ℕ) → AreTlevels s clusters xs → AreTlevels s clusters ys → xs ≡ ys
AreTlevels-same s clusters xs ys one other = same-list xs ys (one.full ∙ sym other.full) (λ t inside.
    let t_in : t < task_count s = omega (arith, one.full) in
    IsTlevel-same (scheduled_graph s clusters) t (slice_index xs t) (slice_index ys t) (one.each t t_in) (other.each t t_in))

-- a step of these parts
abbrev step_of : ℕ → ℕ → ℕ → ℕ → Step
step_of task cluster start pt = record { task = record { 0 = task }; cluster = cluster; start = start; pt = pt }

same-step : (a b : Step) → a.task.0 ≡ b.task.0 → a.cluster ≡ b.cluster → a.start ≡ b.start → a.pt ≡ b.pt → a ≡ b
same-step a b task cluster start pt =
    ap (λ (t : ℕ). step_of t a.cluster a.start a.pt) task
    ∙ (ap (λ (k : ℕ). step_of b.task.0 k a.start a.pt) cluster
    ∙ (ap (λ (n : ℕ). step_of b.task.0 b.cluster n a.pt) start
    ∙ ap (λ (n : ℕ). step_of b.task.0 b.cluster b.start n) pt))

-- from one state there is one step
IsStep-same : (z : State) (a b : Step) (after after' : List (List ℕ)) → IsStep z a after → IsStep z b after' → (a ≡ b) × (after ≡ after')
IsStep-same z a b after after' one other =
    let both : Some a.task.0 ≡ Some b.task.0 = sym one.task ∙ other.task in
    let task : a.task.0 ≡ b.task.0 = cc in
    let cluster : a.cluster ≡ b.cluster = one.cluster ∙ (ap (λ (x : ℕ). number_with z (chosen z x)) task ∙ sym other.cluster) in
    let start : a.start ≡ b.start = one.start ∙ (ap (λ (x : ℕ). start_with z x (chosen z x)) task ∙ sym other.start) in
    let clusters : after ≡ after' = one.clusters ∙ (ap (λ (x : ℕ). clusters_with z.clusters x (chosen z x)) task ∙ sym other.clusters) in
    let pt = IsParallelTime-same (scheduled_graph z.system after') a.pt b.pt (rw clusters at one.pt) other.pt in
    (same-step a b task cluster start pt, clusters)

-- no step begins where all tasks are examined
no-step : (s : System) (blevels tlevels : List ℕ) (clusters : List (List ℕ)) (step : Step) (after : List (List ℕ))
    → AllExamined s clusters → IsStep (state s blevels clusters tlevels) step after → ⊥
no-step s blevels tlevels clusters step after all is =
    let z = state s blevels clusters tlevels in
    let (inside, free) = next_free-free z step.task.0 is.task in
    let new = (and-true (not (is_examined z step.task.0)) (list_all (is_examined z) (predecessors z step.task.0)) free).0 in
    let here = each-number (is_examined (state s [] clusters [])) (task_count s) step.task.0 all inside in
    let e : false ≡ true = rw here at new in
    cc

AreSteps-same : (s : System) (blevels : List ℕ) (clusters : List (List ℕ)) (steps steps' : List Step) (after after' : List (List ℕ))
    → AreSteps s blevels clusters steps after → AllExamined s after → AreSteps s blevels clusters steps' after' → AllExamined s after'
    → (steps ≡ steps') × (after ≡ after')
AreSteps-same s blevels clusters [] [] after after' one all other all' = (refl, sym one ∙ other)
AreSteps-same s blevels clusters [] (step ∷ rest) after after' one all (tlevels, next, are, is, more) all' =
    absurd (no-step s blevels tlevels clusters step next (rw (sym one) at all) is)
AreSteps-same s blevels clusters (step ∷ rest) [] after after' (tlevels, next, are, is, more) all other all' =
    absurd (no-step s blevels tlevels clusters step next (rw (sym other) at all') is)
AreSteps-same s blevels clusters (step ∷ rest) (step' ∷ rest') after after' (tlevels, next, are, is, more) all (tlevels', next', are', is', more') all' =
    let levels = AreTlevels-same s clusters tlevels' tlevels are' are in
    let (first, clusters') = IsStep-same (state s blevels clusters tlevels) step step' next next' is (rw levels at is') in
    let (later, last) = AreSteps-same s blevels next' rest rest' after after' (rw clusters' at more) all more' all' in
    (rw (first, later), last)

pub one-run : (s : System) (c d : Clustering) → IsRun s c → IsRun s d
    → (c.first ≡ d.first) × (c.steps ≡ d.steps) × (cluster_numbers c.clusters ≡ cluster_numbers d.clusters)
one-run s c d one other =
    let blevels = AreBlevels-same s other.blevels one.blevels other.bottom one.bottom in
    let (steps, clusters) = AreSteps-same s one.blevels [] c.steps d.steps (cluster_numbers c.clusters) (cluster_numbers d.clusters) one.steps one.all (rw blevels at other.steps) other.all in
    (IsParallelTime-same (scheduled_graph s []) c.first d.first one.first other.first, steps, clusters)
