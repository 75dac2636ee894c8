use Rattle.std.proofs.Common.{arith, refl}
use Rattle.std.proofs.lemmas.List.{length_push}
use Rattle.pyr_graph.proofs.ListLemmas.{all_empty-push}
use Rattle.pyr_graph.proofs.edges.empty_rows.Goals as goal

pub loop-row-init : goal.loop-row-init
loop-row-init c = rw c.in_ok-rows.ensures.items (refl, λ k. refl)

pub loop-row-preserved : goal.loop-row-preserved
loop-row-preserved c =
    rw (c.in_ok-push.ensures.items, length_push, c.loop-row.invariant.0, c.new.ensures) (refl, all_empty-push c.loop-row.rows.items c.loop-row.invariant.1)

pub returns : goal.returns
returns c = (omega (arith, c.loop-row.invariant.0, c.loop-row-test.false), c.loop-row.invariant.1)
