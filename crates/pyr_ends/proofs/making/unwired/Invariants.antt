use Rattle.std.proofs.Common.{◌≡◌, ◌≤◌, replicate, vec_len, vec_capacity}
use Rattle.pyr_ends.specs.Ends.{idle}
use Rattle.pyr_ends.proofs.making.unwired.Given as goal

-- so many processors are there, none of them wired
abbrev pub invariant-loop : goal.invariant-loop
invariant-loop l =
    (l.rows.items ≡ replicate l.counter (record { tails = replicate l.processors idle; heads = replicate l.processors idle }))
    × (vec_len l.rows ≡ l.counter)
    × (l.processors ≤ vec_capacity l.rows)
