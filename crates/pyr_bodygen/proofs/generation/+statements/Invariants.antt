use Rattle.std.proofs.Common.{◌≡◌, ◌++◌, drop, map}
use Rattle.pyr_body.specs.Seen.{statements_of}
use Rattle.pyr_code.specs.Seen.{op_of}
use Rattle.pyr_bodygen.specs.Generated.{statements_ops}
use Rattle.pyr_bodygen.proofs.generation.+statements.Given as goal

-- what was pushed, with the ops of what is left, is the ops of all
abbrev pub invariant-statements_ops-loop-statement : goal.invariant-statements_ops-loop-statement
invariant-statements_ops-loop-statement l =
    map op_of l.ops.items ++ statements_ops (statements_of (drop l.statement-index l.statements)) ≡ statements_ops (statements_of l.statements)
