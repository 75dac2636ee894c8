use Rattle.std.proofs.Common.{◌+◌, ◌*◌}
use Rattle.pyr_body.proofs.expressions.+expression.Given as goal

abbrev pub decreases-apply : goal.decreases-apply
decreases-apply l = 10 * l.depth + 6

abbrev pub decreases-expression_at : goal.decreases-expression_at
decreases-expression_at l = 10 * l.depth

abbrev pub decreases-expression_from : goal.decreases-expression_from
decreases-expression_from l = 10 * l.depth + 9

abbrev pub decreases-group : goal.decreases-group
decreases-group l = 10 * l.depth + 8

abbrev pub decreases-named : goal.decreases-named
decreases-named l = 10 * l.depth + 6

abbrev pub decreases-operands : goal.decreases-operands
decreases-operands l = 10 * l.depth + 7

abbrev pub decreases-select : goal.decreases-select
decreases-select l = 10 * l.depth + 6

abbrev pub decreases-until_bracket : goal.decreases-until_bracket
decreases-until_bracket l = 10 * l.depth + 5

abbrev pub decreases-until_colon : goal.decreases-until_colon
decreases-until_colon l = 10 * l.depth + 5

abbrev pub decreases-until_paren : goal.decreases-until_paren
decreases-until_paren l = 10 * l.depth + 5
