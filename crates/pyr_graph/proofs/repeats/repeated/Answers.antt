use Rattle.std.proofs.Common.{arith, sym, ◌∙◌}
use Rattle.std.proofs.lemmas.Bool.{not-true, not-false}
use Rattle.pyr_graph.proofs.RepeatLemmas.{IsSearched-start, IsSearched-again, IsSearched-new, IsSearched-end}
use Rattle.pyr_graph.proofs.repeats.repeated.Goals as goal

pub loop-at-init : goal.loop-at-init
loop-at-init c = IsSearched-start c.args.list.now c.new-later.result c.new-later.ensures.empty

pub loop-at-preserved-then-not-branch : goal.loop-at-preserved-then-not-branch
loop-at-preserved-then-not-branch c =
    IsSearched-again c.args.list.now _ _ (omega (arith, c.loop-at-test.true, c.loop-at.invariant.within)) _ _ _ _ (omega (arith, c.loop-at-test.true)) c.loop-at.invariant
    c.in_ok-insert.ensures.updates (not-false _ (sym c.in_ok-insert.ensures.added ∙ c.if-not-branch.true))

pub loop-at-preserved : goal.loop-at-preserved
loop-at-preserved c =
    IsSearched-new c.args.list.now _ _ (omega (arith, c.loop-at-test.true, c.loop-at.invariant.within)) _ _ _ _ (omega (arith, c.loop-at-test.true)) c.loop-at.invariant
    c.in_ok-insert.ensures.updates (not-true _ (sym c.in_ok-insert.ensures.added ∙ c.if-not-branch.false))

pub returns : goal.returns
returns c = IsSearched-end c.args.list.now _ _ _ c.loop-at-test.false c.loop-at.invariant
