use Rattle.pyr_emit.proofs.TaskLemmas.{order_below}
use Rattle.pyr_emit.proofs.emission.parts_of.Goals as goal

pub codes_of-requires-clause-tasks : goal.codes_of-requires-clause-tasks
codes_of-requires-clause-tasks c =
    order_below c.args.program.now.graph c.args.placement.now c.args.plan.now c.requires.ordered c.as_slice.result.now c.as_slice.ensures c.graph-graph.result.now c.graph-graph.ensures.graph
