use Rattle.std.proofs.Common.{◌≡◌, ◌+◌, ◌≤◌, ◌++◌, true, All, map, vec_len, vec_capacity, length}
use Rattle.std.specs.Vec.Iter.{into_iter_items}
use Rattle.pyr_team.specs.Workers.{seat_of, IsReady}
use Rattle.pyr_team.proofs.workers.start_all.Given as goal

abbrev pub invariant-loop-seat : goal.invariant-loop-seat
invariant-loop-seat g l =
    let rest = into_iter_items l.seat-iterator in
    (goal.iterator-loop-seat g).can_next l.seat-iterator × (goal.iterator-loop-seat g).is_finite l.seat-iterator
    × (l.all ≡ true → map seat_of l.handles.items ++ rest ≡ l.fn.seats.items)
    × (vec_len l.handles + length rest ≤ vec_capacity l.handles)
    × All (IsReady l.loaded.bundle) rest
    × (vec_len l.handles + length rest ≤ vec_len l.fn.seats)
    × (l.number + length rest ≤ vec_len l.fn.seats)
