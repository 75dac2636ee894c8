use Rattle.std.proofs.Common.{◌≡◌, take}
use Rattle.pyr_graph.specs.Numbers.{greatest}
use Rattle.pyr_gantt.proofs.time.time_of.Given as goal

abbrev pub invariant-loop-finish : goal.invariant-loop-finish
invariant-loop-finish l = l.time ≡ greatest (λ finish. finish) (take l.finish-index l.plan.finish)
