use Rattle.std.proofs.Common.{◌≡◌, take, map}
use Rattle.pyr_bundle.specs.Parts.{datum_at}
use Rattle.pyr_top.proofs.outputs_text.bundle_names.Given as goal

-- the names so far
abbrev pub invariant-loop-i : goal.invariant-loop-i
invariant-loop-i l = l.names.items ≡ map (λ d. (datum_at l.bundle d.0).name) (take l.i l.prints)
