use Rattle.std.proofs.Common.{◌≡◌, ◌+◌, ◌≤◌, ◌++◌, All, vec_len, vec_capacity, length}
use Rattle.std.specs.Vec.Iter.{into_iter_items}
use Rattle.pyr_proc.specs.Seated.{IsOf}
use Rattle.pyr_proc.proofs.processor.Processor.all_seated.Given as goal

abbrev pub invariant-loop-seat : goal.invariant-loop-seat
invariant-loop-seat l =
    let rest = into_iter_items l.seat-iterator in
    goal.iterator-loop-seat.can_next l.seat-iterator × goal.iterator-loop-seat.is_finite l.seat-iterator
    × (l.processors.items ++ rest ≡ l.fn.seats.items)
    × (vec_len l.processors + length rest ≤ vec_capacity l.processors)
    × All (IsOf l.loaded.bundle) rest
