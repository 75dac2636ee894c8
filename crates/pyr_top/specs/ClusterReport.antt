-- The report on a clustering.
use Rattle.std.specs.Prelude.{ℕ, List, ◌∷◌, ◌++◌, codes, decimal, length}
use Rattle.std.specs.List.{flat_map}
use Rattle.pyr_graph.specs.declared.clustering.Step.{Step}
use Rattle.pyr_graph.specs.declared.clustering.Clustering.{Clustering}
use Rattle.pyr_graphtext.specs.Program.{ProgramParts, task_name}

-- a step: the name of the task, its cluster, its start and the parallel time behind it
abbrev pub step_line : ProgramParts → Step → List ℕ
step_line p step =
    task_name p step.task.0 ++ 32 ∷ decimal step.cluster ++ 32 ∷ decimal step.start
    ++ 32 ∷ decimal step.pt ++ codes "\n"

-- the first parallel time, the steps, and how many clusters there are
abbrev pub cluster_report : ProgramParts → Clustering → List ℕ
cluster_report p c =
    codes "pt" ++ 32 ∷ decimal c.first ++ codes "\n"
    ++ flat_map (step_line p) c.steps
    ++ codes "clusters" ++ 32 ∷ decimal (length c.clusters) ++ codes "\n"
