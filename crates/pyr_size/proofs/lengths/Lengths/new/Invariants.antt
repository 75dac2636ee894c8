use Rattle.std.proofs.Common.{◌≡◌, replicate}
use Rattle.pyr_size.proofs.lengths.Lengths.new.Given as goal

abbrev pub invariant-loop-p : goal.invariant-loop-p
invariant-loop-p l = l.rows.items ≡ replicate l._p (replicate l.processors 0)
