use Rattle.std.proofs.Common.{◌≡◌, None, take}
use Rattle.std.specs.Prelude.{find}
use Rattle.pyr_graph.specs.System.{system_of}
use Rattle.pyr_graph.specs.Bounds.{passes, rows}
use Rattle.pyr_graph.proofs.limits.passed_limit.Given as goal

-- no limit so far is passed
abbrev pub invariant-loop-which : goal.invariant-loop-which
invariant-loop-which l =
    (l.which-items ≡ rows) × (find (passes (system_of l.tasks l.datums l.prints)) (take l.which-index l.which-items) ≡ None)
