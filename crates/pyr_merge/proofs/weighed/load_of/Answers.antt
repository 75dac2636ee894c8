use Rattle.std.proofs.Common.{arith}
use Rattle.pyr_num.specs.declared.ids.TaskId.{TaskId}
use Rattle.pyr_graph.specs.System.{cost_of}
use Rattle.pyr_merge.proofs.RowLemmas.{sum-more_le}
use Rattle.pyr_merge.proofs.weighed.load_of.Goals as goal

pub overflow_add-load : goal.overflow_add-load
overflow_add-load c =
    let d : TaskId = record { 0 = 0 } in
    let within = sum-more_le (cost_of c.args.graph.now) c.args.tasks.now c.loop-task.task-index d c.loop-task-test.true in
    omega (arith, within, c.cost.ensures, c.from-load.ensures, c.requires.fits)
