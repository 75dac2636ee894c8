use Rattle.std.proofs.Common.{◌≡◌, [], replicate}
use Rattle.pyr_calm.proofs.viewer.Viewer.new.Given as goal

-- so many ways are there, and nothing is on them
abbrev pub invariant-loop : goal.invariant-loop
invariant-loop l = l.ways.items ≡ replicate l.counter []
