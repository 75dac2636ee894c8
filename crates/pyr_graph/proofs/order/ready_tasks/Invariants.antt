use Rattle.std.proofs.Common.{◌≡◌, ℕ, ◌<◌}
use Rattle.std.specs.Prelude.{◌↔◌, IsTrue, slice_index}
use Rattle.std.specs.Ordering.{nat_cmp}
use Rattle.std.specs.BTreeSet.{contains}
use Rattle.pyr_graph.proofs.order.ready_tasks.Given as goal

-- the tasks so far that wait for none
abbrev pub invariant-loop-number : goal.invariant-loop-number
invariant-loop-number l =
    (t : ℕ) → IsTrue (contains nat_cmp l.ready t) ↔ ((t < l.number) × (slice_index l.pending t ≡ 0))
