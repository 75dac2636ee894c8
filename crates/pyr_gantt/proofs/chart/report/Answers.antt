use Rattle.pyr_gantt.proofs.TimeLemmas.{IsTimed-from_ordered}
use Rattle.pyr_gantt.proofs.chart.report.Goals as goal

pub bars_of-requires-clause-timed : goal.bars_of-requires-clause-timed
bars_of-requires-clause-timed c =
    rw c.requires.placed.full (IsTimed-from_ordered c.args.program.now.graph c.args.placement.now c.args.plan.now (rw c.graph.ensures.graph at c.well_formed-2.ensures) c.requires.placed c.requires.ordered)

pub put_tasks-requires : goal.put_tasks-requires
put_tasks-requires c = IsTimed-from_ordered c.args.program.now.graph c.args.placement.now c.args.plan.now (rw c.graph.ensures.graph at c.well_formed-2.ensures) c.requires.placed c.requires.ordered
