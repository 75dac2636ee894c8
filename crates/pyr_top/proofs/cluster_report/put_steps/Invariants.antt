use Rattle.std.proofs.Common.{◌≡◌, ◌++◌, take}
use Rattle.std.specs.List.{flat_map}
use Rattle.pyr_top.specs.ClusterReport.{step_line}
use Rattle.pyr_top.proofs.cluster_report.put_steps.Given as goal

-- the steps so far
abbrev pub invariant-loop-step : goal.invariant-loop-step
invariant-loop-step l =
    l.text.items ≡ l.initial.text.items ++ flat_map (step_line l.program) (take l.step-index l.steps)
