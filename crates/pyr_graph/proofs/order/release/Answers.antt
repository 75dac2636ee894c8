use Rattle.std.proofs.Common.{◌<◌, length, get_or, arith}
use Rattle.std.specs.Prelude.{IsTrue}
use Rattle.std.specs.Ordering.{nat_cmp}
use Rattle.std.specs.BTreeSet.{contains}
use Rattle.std.proofs.lemmas.List.{take_all}
use Rattle.pyr_graph.proofs.ReleaseLemmas.{IsReleased-none, waits, IsReleased-ready, IsReleased-waits}
use Rattle.pyr_graph.proofs.order.release.Goals as goal
use Rattle.pyr_graph.proofs.order.release.Goals.{then-pending-at-eq0+in_ok-insert, else-pending-at-eq0}

pub overflow_sub-pending : goal.overflow_sub-pending
overflow_sub-pending c = waits _ _ _ c.loop-edge-test.true _ _ _ _ c.loop-edge.invariant c.requires.enough

pub loop-edge-preserved : goal.loop-edge-preserved
loop-edge-preserved c =
    let edge = get_or c.args.successors.now c.loop-edge.edge-index (record { task = record { 0 = 0 }; weight = 0 }) in
    let enough = waits c.args.successors.now c.loop-edge.edge-index (record { task = record { 0 = 0 }; weight = 0 }) c.loop-edge-test.true _ _ _ _ c.loop-edge.invariant c.requires.enough in
    let inside : edge.task.0 < length c.loop-edge.pending = omega (arith, c.requires.tasks c.loop-edge.edge-index (record { task = record { 0 = 0 }; weight = 0 }) c.loop-edge-test.true) in
    elim c.if-pending-at-eq0.branch [
      | then-pending-at-eq0+in_ok-insert w ↦ rw w.ready-is (IsReleased-ready _ _ _ c.loop-edge-test.true _ _ _ _ c.loop-edge.invariant _ w.in_ok-insert.ensures.updates w.if-pending-at-eq0.true enough inside)
      | else-pending-at-eq0 w ↦ rw w.ready-is (IsReleased-waits _ _ _ c.loop-edge-test.true _ _ _ _ c.loop-edge.invariant w.if-pending-at-eq0.false enough inside)
    ]

pub loop-edge-init : goal.loop-edge-init
loop-edge-init c = IsReleased-none c.args.pending.now (λ t. IsTrue (contains nat_cmp c.args.ready.now t))

pub bounds-pending-at : goal.bounds-pending-at
bounds-pending-at c =
    rw c.loop-edge.auto.pending (c.requires.tasks c.loop-edge.edge-index (record { task = record { 0 = 0 }; weight = 0 }) c.loop-edge-test.true)

pub returns : goal.returns
returns c =
    let is = rw (take_all c.loop-edge.edge-index c.args.successors.now c.loop-edge-test.false) at c.loop-edge.invariant in
    record { pending = is.pending; ready = is.ready }
