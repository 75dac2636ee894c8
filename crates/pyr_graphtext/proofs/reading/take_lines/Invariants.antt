use Rattle.std.proofs.Common.{length}
use Rattle.pyr_graphtext.proofs.ReadingLemmas.{HasRead}
use Rattle.pyr_graphtext.proofs.reading.take_lines.Given as goal

-- the lines before what is left were read
abbrev pub invariant-loop-rest : goal.invariant-loop-rest
invariant-loop-rest l = HasRead l.text l.reader l.number l.rest

abbrev pub decreases-loop-rest : goal.decreases-loop-rest
decreases-loop-rest l = length l.rest
