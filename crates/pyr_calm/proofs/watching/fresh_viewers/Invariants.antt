use Rattle.std.proofs.Common.{◌≡◌, replicate}
use Rattle.pyr_calm.specs.Seats.{fresh_seat}
use Rattle.pyr_calm.proofs.watching.fresh_viewers.Given as goal

abbrev pub invariant-loop : goal.invariant-loop
invariant-loop l = l.viewers.items ≡ replicate l.counter (fresh_seat l.processors)
