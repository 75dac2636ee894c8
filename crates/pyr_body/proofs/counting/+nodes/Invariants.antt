use Rattle.std.proofs.Common.{◌≡◌, ◌+◌, drop}
use Rattle.pyr_body.specs.Seen.{statements_of}
use Rattle.pyr_body.specs.Size.{statements_nodes}
use Rattle.pyr_body.proofs.counting.+nodes.Given as goal

abbrev pub invariant-statements_nodes-loop-statement :
    goal.invariant-statements_nodes-loop-statement
invariant-statements_nodes-loop-statement l =
    l.sum + statements_nodes (statements_of (drop l.statement-index l.statements))
    ≡ statements_nodes (statements_of l.statements)
