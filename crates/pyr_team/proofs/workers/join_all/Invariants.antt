use Rattle.std.proofs.Common.{◌≡◌, ◌+◌, ◌≤◌, ◌++◌, true, List, map, vec_len, vec_capacity, length}
use Rattle.std.specs.Vec.Iter.{into_iter_items}
use Rattle.pyr_proc.specs.Seated.{Seated, HasRun}
use Rattle.pyr_team.specs.Workers.{seat_of, AllRan}
use Rattle.pyr_team.proofs.JoinLemmas.{Goes}
use Rattle.pyr_team.proofs.workers.join_all.Given as goal

abbrev pub invariant-loop-handle : goal.invariant-loop-handle
invariant-loop-handle g l =
    let rest = into_iter_items l.handle-iterator in
    (goal.iterator-loop-handle g).can_next l.handle-iterator × (goal.iterator-loop-handle g).is_finite l.handle-iterator
    × (l.all ≡ true → (seats : List Seated) → AllRan seats l.initial.done.items → Goes (HasRun 0) seat_of (seats ++ map seat_of l.fn.handles.items) rest l.done.items)
    × (vec_len l.done + length rest ≤ vec_capacity l.done)
