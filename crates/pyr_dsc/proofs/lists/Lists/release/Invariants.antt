use Rattle.std.proofs.Common.{take}
use Rattle.pyr_graph.specs.Edges.{senders}
use Rattle.pyr_dsc.specs.Progress.{state_of}
use Rattle.pyr_dsc.proofs.ListsLemmas.{AreUpTo}
use Rattle.pyr_dsc.proofs.lists.Lists.release.Given as goal

abbrev pub invariant-loop-edge : goal.invariant-loop-edge
invariant-loop-edge l = AreUpTo (state_of l.graph l.progress) l.fn.self l.self (senders (take l.edge-index l.edge-items))
