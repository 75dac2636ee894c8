-- The tasks run in one topological order, and every other gives the same values.
use Rattle.std.proofs.Common.{◌+◌, sym, subst, List, ℕ}
use Rattle.pyr_graph.specs.System.{task_numbers}
use Rattle.pyr_graphtext.proofs.RoomLemmas.{room_moved}
use Rattle.pyr_graphtext.proofs.RunningLemmas.{HaveRun, HaveRun-step, HaveRun-end, next_in, AreReady-next, graph_moved, order_moved}
use Rattle.pyr_graphtext.proofs.running.all_values.Goals as goal

pub run_task-requires-clause-task : goal.run_task-requires-clause-task
run_task-requires-clause-task c =
    let order = c.topological-task-items.result.now in
    let graph = graph_moved _ _ c.graph-graph.ensures.graph c.well_formed-2.ensures in
    let top = order_moved _ _ (task_numbers c.topological-task-items.result.now) c.graph-graph.ensures.graph c.topological-task-items.ensures.order in
    next_in c.args.program.now c.args.frame graph order c.loop-task.task-index c.loop-task.table c.loop-task.invariant.run top (record { 0 = 0 }) c.loop-task-test.true

pub run_task-requires-clause-ready : goal.run_task-requires-clause-ready
run_task-requires-clause-ready c =
    let order = c.topological-task-items.result.now in
    let graph = graph_moved _ _ c.graph-graph.ensures.graph c.well_formed-2.ensures in
    let top = order_moved _ _ (task_numbers c.topological-task-items.result.now) c.graph-graph.ensures.graph c.topological-task-items.ensures.order in
    AreReady-next c.args.program.now c.args.frame graph order c.loop-task.task-index c.loop-task.table c.loop-task.invariant.run top (record { 0 = 0 }) c.loop-task-test.true

pub loop-task-preserved : goal.loop-task-preserved
loop-task-preserved c =
    let order = c.topological-task-items.result.now in
    let graph = graph_moved _ _ c.graph-graph.ensures.graph c.well_formed-2.ensures in
    let top = order_moved _ _ (task_numbers c.topological-task-items.result.now) c.graph-graph.ensures.graph c.topological-task-items.ensures.order in
    let here_in = next_in c.args.program.now c.args.frame graph order c.loop-task.task-index c.loop-task.table c.loop-task.invariant.run top (record { 0 = 0 }) c.loop-task-test.true in
    let behind = HaveRun-step c.args.program.now c.args.frame graph order c.loop-task.task-index c.loop-task.table c.loop-task.invariant.run (record { 0 = 0 }) c.loop-task-test.true here_in in
    record {
      run = subst (λ (table : List (List ℕ)). HaveRun c.args.program.now c.args.frame c.topological-task-items.result.now (c.loop-task.task-index + 1) table) (sym c.in_ok-run_task.ensures.table) behind;
      room = room_moved _ _ _ _ _ c.run_task.ensures.slots c.run_task.ensures.words c.loop-task.invariant.room;
    }

pub returns : goal.returns
returns c =
    let order = c.topological-task-items.result.now in
    let graph = graph_moved _ _ c.graph-graph.ensures.graph c.well_formed-2.ensures in
    let top = order_moved _ _ (task_numbers c.topological-task-items.result.now) c.graph-graph.ensures.graph c.topological-task-items.ensures.order in
    HaveRun-end c.args.program.now c.args.frame graph order c.loop-task.task-index c.loop-task.table c.loop-task.invariant.run top c.loop-task-test.false
