use Rattle.pyr_levels.specs.Passes.{way}
use Rattle.pyr_levels.proofs.Longest.{IsLongest}
use Rattle.pyr_levels.proofs.backward.longest_way.Given as goal

abbrev pub invariant-loop-edge : goal.invariant-loop-edge
invariant-loop-edge g l = IsLongest (way (g.W.Weighing.left l.weighing) l.task.0 l.levels) l.edges l.edge-index l.longest
