use Rattle.std.proofs.Common.{arith, get_or}
use Rattle.pyr_graph.specs.declared.edge.Edge.{Edge}
use Rattle.pyr_levels.specs.Passes.{way}
use Rattle.pyr_levels.proofs.Longest.{IsLongest-takes, IsLongest-keeps}
use Rattle.pyr_levels.proofs.backward.longest_way.Goals as goal
use Rattle.pyr_levels.proofs.backward.longest_way.Goals.{then-through-longest, else-through-longest}

none : Edge
none = record { task = record { 0 = 0 }; weight = 0 }

pub loop-edge-preserved : goal.loop-edge-preserved
unfolding none
loop-edge-preserved g c =
    let length_of = way (g.W.Weighing.left c.args.weighing.now) c.args.task.0 c.args.levels.now in
    elim c.if-through-longest.branch [
      | then-through-longest w ↦
          rw w.longest-is (rw c.weigh-weight.ensures (IsLongest-takes length_of _ _ _ none c.loop-edge-test.true c.loop-edge.invariant (omega (arith, w.if-through-longest.true, c.weigh-weight.ensures))))
      | else-through-longest w ↦
          rw w.longest-is (IsLongest-keeps length_of _ _ _ none c.loop-edge-test.true c.loop-edge.invariant (omega (arith, w.if-through-longest.false, c.weigh-weight.ensures)))
    ]

pub overflow_add-through : goal.overflow_add-through
overflow_add-through g c =
    let edge : Edge = get_or c.args.edges.now c.loop-edge.edge-index none in
    let fits = c.requires.fits c.loop-edge.edge-index none c.loop-edge-test.true in
    let less = c.requires.no_more c.args.task.0 edge.task.0 edge.weight in
    omega (arith, c.weigh-weight.ensures, fits, less)
