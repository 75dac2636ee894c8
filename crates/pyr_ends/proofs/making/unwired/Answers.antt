use Rattle.std.proofs.Common.{◌∙◌, ap, replicate, List, arith}
use Rattle.pyr_ends.specs.Ends.{idle}
use Rattle.pyr_wire.specs.End.{End}
use Rattle.pyr_ends.specs.declared.ends.Ends.{Ends}
use Rattle.pyr_ends.proofs.RowLemmas.{one_more_same}
use Rattle.pyr_ends.proofs.making.unwired.Goals as goal

pub loop-preserved : goal.loop-preserved
loop-preserved c =
    let i = c.loop.invariant in
    let push = c.push_reserved.ensures in
    let idle_row = replicate c.args.processors idle in
    let ends : List End → List End → Ends = λ tails heads. record { tails = tails; heads = heads } in
    let are_idle = ap (λ tails. ends tails c.in_ok-heads.heads) c.in_ok-tails.ensures ∙ ap (λ heads. ends idle_row heads) c.in_ok-heads.ensures in
    (one_more_same c.loop.counter (ends idle_row idle_row) (ends c.in_ok-tails.tails c.in_ok-heads.heads) c.loop.rows.items c.push_reserved.new.self.items i.0 push.items are_idle, omega (arith, i.1, push.len), omega (arith, i.2, push.capacity))
