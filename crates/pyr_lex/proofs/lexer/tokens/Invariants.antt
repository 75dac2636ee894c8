use Rattle.std.proofs.Common.{◌-◌, length}
use Rattle.pyr_lex.proofs.Steps.{HasRead}
use Rattle.pyr_lex.proofs.lexer.tokens.Given as goal

abbrev pub invariant-loop-at : goal.invariant-loop-at
invariant-loop-at l = HasRead l.line l.tokens.items l.at

abbrev pub decreases-loop-at : goal.decreases-loop-at
decreases-loop-at l = length l.line - l.at
