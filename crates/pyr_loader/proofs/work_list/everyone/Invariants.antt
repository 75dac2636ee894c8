use Rattle.pyr_loader.specs.WorkList.{AreBelow}
use Rattle.pyr_loader.proofs.work_list.everyone.Given as goal

abbrev pub invariant-loop-p : goal.invariant-loop-p
invariant-loop-p l = AreBelow l.p l.all.items
