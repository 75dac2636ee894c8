-- The words of a stack, by its array and its height.
use Rattle.std.specs.Prelude.{ℕ, zero, suc, List, [], ◌∷◌, slice_index}

-- the words below a height, the topmost first
abbrev pub stacked : List ℕ → ℕ → List ℕ
stacked words zero = []
stacked words (suc h) = slice_index words h ∷ stacked words h
