use Rattle.std.proofs.Common.{◌≡◌, ◌+◌, ◌≤◌, ◌++◌, vec_len, vec_capacity, length}
use Rattle.std.specs.Vec.Iter.{into_iter_items}
use Rattle.pyr_team.proofs.team.add_seats.Given as goal

abbrev pub invariant-loop-processor : goal.invariant-loop-processor
invariant-loop-processor l =
    let rest = into_iter_items l.processor-iterator in
    goal.iterator-loop-processor.can_next l.processor-iterator × goal.iterator-loop-processor.is_finite l.processor-iterator
    × (l.seats.items ++ rest ≡ l.initial.seats.items ++ into_iter_items l.fn.processors)
    × (vec_len l.seats + length rest ≤ vec_capacity l.seats)
