use Rattle.pyr_size.proofs.Executed.{HasBlocks}
use Rattle.pyr_size.proofs.blocks.blocks_of.Given as goal

abbrev pub invariant-loop-p : goal.invariant-loop-p
invariant-loop-p l = HasBlocks l.bundle l.p l.blocks.items
