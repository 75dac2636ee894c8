use Rattle.pyr_lex.proofs.Counter.{counts_on}
use Rattle.pyr_lex.proofs.brackets.depth.Goals as goal

pub loop-spanned-preserved : goal.loop-spanned-preserved
loop-spanned-preserved c =
    counts_on c.args.tokens.now c.loop-spanned.spanned-index _ _ _ _ _ c.loop-spanned-test.true c.spanned-item.is c.count_after-count.ensures c.max-deepest.ensures c.loop-spanned.invariant
