use Rattle.std.proofs.Common.{◌≡◌, ℕ, [], length}
use Rattle.std.specs.Prelude.{slice_index_or}
use Rattle.pyr_graph.proofs.edges.empty_rows.Given as goal

-- the rows so far are empty
abbrev pub invariant-loop-row : goal.invariant-loop-row
invariant-loop-row l = (length l.rows.items ≡ l._row) × ((t : ℕ) → slice_index_or l.rows.items t [] ≡ [])
