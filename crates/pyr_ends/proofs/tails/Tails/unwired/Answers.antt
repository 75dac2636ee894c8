use Rattle.std.proofs.Common.{refl, None, arith}
use Rattle.pyr_ends.specs.Ends.{idle, end_or_idle}
use Rattle.pyr_ends.proofs.RowLemmas.{one_more_seen}
use Rattle.pyr_ends.proofs.tails.Tails.unwired.Goals as goal

pub loop-preserved : goal.loop-preserved
loop-preserved c =
    let i = c.loop.invariant in
    let push = c.push_reserved.ensures in
    (one_more_seen end_or_idle c.loop.counter idle None c.loop.ends.items c.push_reserved.new.self.items i.0 push.items refl, omega (arith, i.1, push.len), omega (arith, i.2, push.capacity))
