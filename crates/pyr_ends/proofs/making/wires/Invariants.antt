use Rattle.std.proofs.Common.{drop}
use Rattle.pyr_ends.proofs.Grid.{AreWired}
use Rattle.pyr_ends.proofs.making.wires.Given as goal

-- the channels from here on have their wires
abbrev pub invariant-loop-at : goal.invariant-loop-at
invariant-loop-at g l = AreWired (g.F.Feed.feed l.feed) l.processors (drop l.at l.channels) l.rows.items
