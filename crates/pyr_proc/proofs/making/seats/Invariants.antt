use Rattle.std.proofs.Common.{◌≡◌, ◌+◌, ◌≤◌, length, vec_len, vec_capacity}
use Rattle.std.specs.Vec.Iter.{into_iter_items, into_iter_len}
use Rattle.pyr_proc.specs.Making.{AreSeated}
use Rattle.pyr_proc.proofs.making.seats.Given as goal

abbrev pub invariant-loop-ends : goal.invariant-loop-ends
invariant-loop-ends g l =
    let rest = into_iter_items l.ends-iterator in
    (goal.iterator-loop-ends g).can_next l.ends-iterator × (goal.iterator-loop-ends g).is_finite l.ends-iterator
    × AreSeated l.bundle l.frames l.number (into_iter_items l.initial.ends-iterator) rest l.seats.items
    × (vec_len l.seats + length rest ≤ vec_capacity l.seats)
    × (into_iter_len l.ends-iterator ≡ length rest)
