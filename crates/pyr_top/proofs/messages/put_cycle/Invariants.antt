use Rattle.std.proofs.Common.{◌≡◌, ◌∷◌, ◌++◌, codes, take}
use Rattle.std.specs.List.{flat_map}
use Rattle.pyr_top.proofs.messages.put_cycle.Given as goal

-- the names so far
abbrev pub invariant-loop-name : goal.invariant-loop-name
invariant-loop-name l = l.line.items ≡ l.fn.line.items ++ codes "cycle" ++ flat_map (λ name. 32 ∷ name) (take l.name-index l.names)
