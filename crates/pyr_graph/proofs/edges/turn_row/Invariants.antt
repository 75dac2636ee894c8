use Rattle.std.proofs.Common.{◌≡◌, ℕ, ◌<◌, [], ◌++◌, length, take}
use Rattle.std.specs.Prelude.{slice_index_or}
use Rattle.pyr_graph.specs.Tables.{turned}
use Rattle.pyr_graph.proofs.edges.turn_row.Given as goal

-- the edges so far are added
abbrev pub invariant-loop-edge : goal.invariant-loop-edge
invariant-loop-edge l =
    (t : ℕ) → t < length l.initial.rows → slice_index_or l.rows t []
    ≡ slice_index_or l.initial.rows t [] ++ turned l.from.0 (take l.edge-index l.edges) t
