use Rattle.std.proofs.Common.{length}
use Rattle.pyr_bundletext.proofs.ReadingLemmas.{HasRead}
use Rattle.pyr_bundletext.proofs.reading.read_lines.Given as goal

-- the lines before what is left were read
abbrev pub invariant-loop-alloc : goal.invariant-loop-alloc
invariant-loop-alloc l = HasRead l.text l.reader l.number l.rest

abbrev pub decreases-loop-alloc : goal.decreases-loop-alloc
decreases-loop-alloc l = length l.rest
