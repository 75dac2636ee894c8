use Rattle.std.proofs.Common.{◌≡◌, take, map}
use Rattle.pyr_graphtext.specs.Program.{datum_name}
use Rattle.pyr_top.proofs.outputs_text.printed_names.Given as goal

-- the names so far
abbrev pub invariant-loop-i : goal.invariant-loop-i
invariant-loop-i l = l.names.items ≡ map (λ d. datum_name l.program d.0) (take l.i l.prints)
