use Rattle.std.proofs.Common.{◌≡◌, ℕ, ◌<◌, length, slice_index}
use Rattle.pyr_calm.specs.Seats.{seat_at}
use Rattle.pyr_calm.proofs.watching.most_of.Given as goal

-- the first of them are there
abbrev pub invariant-loop-viewer : goal.invariant-loop-viewer
invariant-loop-viewer l =
    (length l.most.items ≡ l.viewer-index)
    × ((p : ℕ) → p < l.viewer-index → slice_index l.most.items p ≡ (seat_at l.viewers p).most)
