use Rattle.pyr_calm.proofs.Lines.{AreFirst}
use Rattle.pyr_calm.proofs.capacities.calm.Given as goal

-- the first of the lines are there
abbrev pub invariant-loop-channel : goal.invariant-loop-channel
invariant-loop-channel l = AreFirst l.bundle l.passages.items l.channel-index l.lines.items
