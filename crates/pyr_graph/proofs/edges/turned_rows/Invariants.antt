use Rattle.std.proofs.Common.{◌≡◌, ℕ, ◌<◌, [], length, take}
use Rattle.std.specs.Prelude.{slice_index_or}
use Rattle.pyr_graph.specs.Tables.{turned_from}
use Rattle.pyr_graph.proofs.edges.turned_rows.Given as goal

-- the rows so far are turned
abbrev pub invariant-loop-number : goal.invariant-loop-number
invariant-loop-number l =
    (length l.rows.items ≡ length l.successors)
    × ((t : ℕ) → t < length l.successors → slice_index_or l.rows.items t [] ≡ turned_from 0 (take l.number l.successors) t)
