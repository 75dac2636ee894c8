-- The input of a simulation: a graph text and, behind the first line `durations`, further lines.
use Rattle.std.specs.Prelude.{ℕ, ◌+◌, List, [], ◌∷◌, length, take, drop, bytes_eq, codes, if◌then◌else◌}
use Rattle.pyr_graphtext.specs.Lines.{lines}

-- of these lines, those before the first one whose bytes are exactly `durations`: their bytes, with
-- a line feed for each, and their number; all lines where there is no such line
unfoldable pub bytes_before : List (List ℕ) → ℕ
bytes_before [] = 0
bytes_before (l ∷ ls) =
    if bytes_eq l (codes "durations") then 0 else length l + 1 + bytes_before ls

unfoldable pub lines_before : List (List ℕ) → ℕ
lines_before [] = 0
lines_before (l ∷ ls) = if bytes_eq l (codes "durations") then 0 else lines_before ls + 1

-- the graph text: what stands before that line, or the whole input
abbrev pub graph_text : List ℕ → List ℕ
graph_text input = take (bytes_before (lines input)) input

-- what stands behind that line, which has ten bytes with its line feed, or nothing
abbrev pub later_text : List ℕ → List ℕ
later_text input = drop (bytes_before (lines input) + 10) input

-- the number, in the input, of the line behind that line
abbrev pub later_line : List ℕ → ℕ
later_line input = lines_before (lines input) + 2
