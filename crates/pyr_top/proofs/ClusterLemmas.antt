-- The steps of a clustering are steps of tasks, and a program has one report.
use Rattle.std.proofs.Common.{◌≡◌, ℕ, ◌<◌, List, [], ◌∷◌, ◌++◌, All, codes, decimal, length, sym, ap, ◌∙◌}
use Rattle.std.proofs.lemmas.List.{length-map}
use Rattle.std.proofs.lemmas.List.Elements.{All-nil, All-cons}
use Rattle.pyr_graph.specs.declared.clustering.Step.{Step}
use Rattle.pyr_graph.specs.declared.clustering.Clustering.{Clustering}
use Rattle.pyr_graph.specs.System.{System, task_count, task_numbers}
use Rattle.pyr_graph.specs.Clusters.{cluster_numbers}
use Rattle.pyr_graphtext.specs.Program.{ProgramParts}
use Rattle.pyr_dsc.specs.Run.{IsRun, AreSteps, state}
use Rattle.pyr_dsc.proofs.HeadLemmas.{next_free-free}
use Rattle.pyr_dsc.proofs.UniqueLemmas.{one-run}
use Rattle.std.specs.List.{flat_map}
use Rattle.pyr_top.specs.ClusterReport.{step_line, cluster_report}
use Rattle.pyr_top.specs.Answers.{IsClusterReport}

-- each step examines a task
steps_in : (s : System) (blevels : List ℕ) (clusters : List (List ℕ)) (steps : List Step) (after : List (List ℕ)) → AreSteps s blevels clusters steps after → All (λ step. step.task.0 < task_count s) steps
steps_in s blevels clusters [] after are = All-nil (λ (step : Step). step.task.0 < task_count s)
steps_in s blevels clusters (step ∷ rest) after (tlevels, next, levels, is, more) =
    All-cons (λ (each : Step). each.task.0 < task_count s) step rest
    (next_free-free (state s blevels clusters tlevels) step.task.0 is.task).0
    (steps_in s blevels next rest after more)

pub run_in : (s : System) (c : Clustering) → IsRun s c → All (λ step. step.task.0 < task_count s) c.steps
run_in s c run = steps_in s run.blevels [] c.steps (cluster_numbers c.clusters) run.steps

-- two runs of one graph have as many clusters
same_count : (s : System) (c d : Clustering) → IsRun s c → IsRun s d → length c.clusters ≡ length d.clusters
same_count s c d first second =
    sym (length-map c.clusters task_numbers)
    ∙ ap length ((one-run s c d first second).2)
    ∙ length-map d.clusters task_numbers

-- and one report
same_report : (p : ProgramParts) (c d : Clustering) → IsRun p.graph c → IsRun p.graph d → cluster_report p c ≡ cluster_report p d
same_report p c d first second =
    let (times, steps, clusters) = one-run p.graph c d first second in
    let count : length c.clusters ≡ length d.clusters = same_count p.graph c d first second in
    λ i. codes "pt" ++ 32 ∷ decimal (times i) ++ codes "\n" ++ flat_map (step_line p) (steps i) ++ codes "clusters" ++ 32 ∷ decimal (count i) ++ codes "\n"

-- a program has one report on its clustering
pub one_cluster_report : (p : ProgramParts) (a b : List ℕ) → IsClusterReport p a → IsClusterReport p b → a ≡ b
one_cluster_report p a b first second =
    first.text ∙ same_report p first.clustering second.clustering first.run second.run ∙ sym second.text
