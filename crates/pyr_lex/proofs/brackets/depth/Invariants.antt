use Rattle.pyr_lex.proofs.Counter.{HasCounted}
use Rattle.pyr_lex.proofs.brackets.depth.Given as goal

abbrev pub invariant-loop-spanned : goal.invariant-loop-spanned
invariant-loop-spanned l = HasCounted l.tokens l.spanned-index l.count l.deepest
