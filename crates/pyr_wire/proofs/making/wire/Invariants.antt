use Rattle.pyr_wire.proofs.making.wire.Given as goal

-- the list and the capacity that this call picks
abbrev pub ghosts-cut_for : goal.ghosts-cut_for
ghosts-cut_for g a = record { whole = g.F.Feed.feed a._feed.now a._from a._to; capacity = a._capacity }
