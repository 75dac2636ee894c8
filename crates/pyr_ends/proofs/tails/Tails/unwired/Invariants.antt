use Rattle.std.proofs.Common.{◌≡◌, ◌≤◌, map, replicate, vec_len, vec_capacity}
use Rattle.pyr_ends.specs.Ends.{idle, end_or_idle}
use Rattle.pyr_ends.proofs.tails.Tails.unwired.Given as goal

-- so many ends are there, all idle
abbrev pub invariant-loop : goal.invariant-loop
invariant-loop l = (map end_or_idle l.ends.items ≡ replicate l.counter idle) × (vec_len l.ends ≡ l.counter) × (l.processors ≤ vec_capacity l.ends)
