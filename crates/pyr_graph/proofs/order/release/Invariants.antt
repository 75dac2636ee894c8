use Rattle.std.proofs.Common.{take}
use Rattle.std.specs.Prelude.{IsTrue}
use Rattle.std.specs.Ordering.{nat_cmp}
use Rattle.std.specs.BTreeSet.{contains}
use Rattle.pyr_graph.proofs.ReleaseLemmas.{IsReleased}
use Rattle.pyr_graph.proofs.order.release.Given as goal

-- the successors so far wait for one predecessor less
abbrev pub invariant-loop-edge : goal.invariant-loop-edge
invariant-loop-edge l =
    IsReleased (take l.edge-index l.successors) l.initial.pending l.pending
    (λ t. IsTrue (contains nat_cmp l.initial.ready t)) (λ t. IsTrue (contains nat_cmp l.ready t))
