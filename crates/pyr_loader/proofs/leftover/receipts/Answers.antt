use Rattle.std.proofs.Common.{sym, subst}
use Rattle.pyr_loader.specs.Unreceived.{AreMarks}
use Rattle.pyr_loader.proofs.UnreceivedLemmas.{receipts_more}
use Rattle.pyr_loader.proofs.leftover.receipts.Goals as goal

pub loop-p-preserved : goal.loop-p-preserved
loop-p-preserved c =
    receipts_more c.args.bundle.now c.loop-p.p c.loop-p.table.items c.push.new.self.items c.from_vec.result c.loop-p.invariant
    (subst (AreMarks c.args.bundle.now c.loop-p.p) (sym c.from_vec.ensures) c.in_ok-marks.ensures) c.in_ok-push.ensures.items
