use Rattle.std.proofs.Common.{◌≡◌, length, get_or, take, arith}
use Rattle.pyr_graph.specs.declared.edge.Edge.{Edge}
use Rattle.pyr_graph.specs.Edges.{senders}
use Rattle.pyr_graph.proofs.SenderLemmas.{senders-more}
use Rattle.pyr_dsc.specs.Progress.{state_of}
use Rattle.pyr_dsc.proofs.ListsLemmas.{AreUpTo-placed, IsWaiting-still, reader-not_done, AreLists-end}
use Rattle.pyr_dsc.proofs.lists.Lists.release.Goals as goal

none : Edge
none = record { task = record { 0 = 0 }; weight = 0 }

pub place-requires-clause-waits : goal.place-requires-clause-waits
unfolding none
place-requires-clause-waits c =
    let edges = c.successors-edge-items.result.now in
    let i = c.loop-edge.edge-index in
    let z = state_of c.args.graph.now c.args.progress.now in
    let b = (get_or edges i none).task.0 in
    IsWaiting-still z c.args.self.now c.loop-edge.self (senders (take i edges)) b c.loop-edge.invariant
    (reader-not_done z c.args.task.0 edges c.successors-edge-items.ensures i none c.loop-edge-test.true)
    (c.requires.waiting b (c.successors-edge-items.ensures.sound i none c.loop-edge-test.true).1)

pub loop-edge-preserved : goal.loop-edge-preserved
unfolding none
loop-edge-preserved c =
    let edges = c.successors-edge-items.result.now in
    let i = c.loop-edge.edge-index in
    let z = state_of c.args.graph.now c.args.progress.now in
    rw (senders-more edges i none c.loop-edge-test.true)
    (AreUpTo-placed z c.args.self.now c.loop-edge.self c.place.new.self (senders (take i edges)) (get_or edges i none).task.0 c.loop-edge.invariant c.in_ok-place.ensures)

pub returns : goal.returns
returns c =
    let edges = c.successors-edge-items.result.now in
    let i = c.loop-edge.edge-index in
    let z = state_of c.args.graph.now c.args.progress.now in
    let all : i ≡ length edges = omega arith in
    AreLists-end z c.args.task.0 edges c.successors-edge-items.ensures c.args.self.now c.loop-edge.self i all c.loop-edge.invariant c.requires.free c.requires.partly_free
