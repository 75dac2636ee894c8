use Rattle.pyr_loader.specs.Unreceived.{AreReceipts}
use Rattle.pyr_loader.proofs.leftover.receipts.Given as goal

abbrev pub invariant-loop-p : goal.invariant-loop-p
invariant-loop-p l = AreReceipts l.bundle l.p l.table.items
