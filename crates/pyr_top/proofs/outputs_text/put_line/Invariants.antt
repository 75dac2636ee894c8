use Rattle.std.proofs.Common.{◌≡◌, ◌∷◌, ◌++◌, decimal, take}
use Rattle.std.specs.List.{flat_map}
use Rattle.pyr_top.proofs.outputs_text.put_line.Given as goal

-- the words so far
abbrev pub invariant-loop-word : goal.invariant-loop-word
invariant-loop-word l = l.text.items ≡ l.initial.text.items ++ flat_map (λ word. 32 ∷ decimal word) (take l.word-index l.words)
