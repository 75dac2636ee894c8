-- The ends of a processor's wires, by the number of the processor at the other end.
use Rattle.std.specs.Prelude.{ℕ, List, [], slice_index_or, Option, Some, None}
use Rattle.pyr_wire.specs.End.{End, end_at}

-- where there is no wire, there is nothing to carry
abbrev pub idle : End
idle = end_at [] 0 0

abbrev pub end_or_idle : Option End → End
end_or_idle None = idle
end_or_idle (Some e) = e

-- the end for a processor; past the last one, idle
abbrev pub end_for : List End → ℕ → End
end_for ends peer = slice_index_or ends peer idle
