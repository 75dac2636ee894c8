use Rattle.pyr_loader.proofs.WorkLemmas.{one_more_below}
use Rattle.pyr_loader.proofs.work_list.everyone.Goals as goal

pub loop-p-preserved : goal.loop-p-preserved
loop-p-preserved c = one_more_below c.loop-p.p c.loop-p.all.items c.push.new.self.items c.in_ok-push.ensures.items c.loop-p.invariant
