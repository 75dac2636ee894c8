use Rattle.std.proofs.Common.{◌≡◌, ◌≤◌, drop, length}
use Rattle.pyr_size.specs.Blocks.{noted}
use Rattle.pyr_size.proofs.blocks.note_blocks.Given as goal

-- what is noted, and what the rest will note, are all
abbrev pub invariant-loop-i : goal.invariant-loop-i
invariant-loop-i l = record {
  count : length l.blocks ≡ length l.fn.blocks;
  few : l.receives ≤ l.i;
  blocks : noted l.p l.receives (drop l.i l.code) l.blocks ≡ noted l.p 0 l.code l.fn.blocks;
}
