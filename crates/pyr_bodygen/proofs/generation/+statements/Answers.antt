use Rattle.std.proofs.Common.{map}
use Rattle.pyr_body.specs.Seen.{statements_of}
use Rattle.pyr_code.specs.Seen.{op_of}
use Rattle.pyr_bodygen.specs.Generated.{statements_ops}
use Rattle.pyr_bodygen.proofs.CodeLemmas.{statement_more}
use Rattle.pyr_bodygen.proofs.generation.+statements.Goals as goal

pub statements_ops-loop-statement-preserved : goal.statements_ops-loop-statement-preserved
statements_ops-loop-statement-preserved _ c =
    statement_more c.args.statements.now c.loop-statement.statement-index c.statement-item.result (map op_of c.loop-statement.ops.items) (map op_of c.push_stmt.new.ops.items) (statements_ops (statements_of c.args.statements.now))
    c.loop-statement-test.true c.statement-item.is c.loop-statement.invariant c.in_ok-push_stmt.ensures
