use Rattle.std.proofs.Common.{drop}
use Rattle.pyr_body.proofs.RunLemmas.{SoFar, Turned}
use Rattle.pyr_body.proofs.evaluation.+run.Given as goal

abbrev pub invariant-run_stmt-loop-k : goal.invariant-run_stmt-loop-k
invariant-run_stmt-loop-k l =
    Turned l.frame l.local l.turn l.k l.initial.locals l.initial.cells l.locals l.cells

abbrev pub invariant-run_statements-loop-statement : goal.invariant-run_statements-loop-statement
invariant-run_statements-loop-statement l =
    SoFar l.frame (drop l.statement-index l.statements) l.statements l.initial.locals l.initial.cells
    l.locals l.cells
