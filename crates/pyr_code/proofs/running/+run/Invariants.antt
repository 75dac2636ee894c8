use Rattle.std.proofs.Common.{drop}
use Rattle.pyr_code.proofs.RunLemmas.{SoFar, Turned}
use Rattle.pyr_code.proofs.running.+run.Given as goal

abbrev pub invariant-run_op-loop-k : goal.invariant-run_op-loop-k
invariant-run_op-loop-k g l =
    Turned l.frame l.local l.turn l.k l.initial.stack l.initial.locals l.initial.cells l.stack l.locals l.cells l.initial.steps l.steps

abbrev pub invariant-run_ops-loop-op : goal.invariant-run_ops-loop-op
invariant-run_ops-loop-op g l =
    SoFar l.frame (drop l.op-index l.ops) l.ops l.initial.stack l.initial.locals l.initial.cells l.stack l.locals l.cells l.initial.steps l.steps
