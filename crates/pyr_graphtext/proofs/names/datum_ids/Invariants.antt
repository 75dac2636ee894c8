use Rattle.std.proofs.Common.{◌≡◌, take}
use Rattle.pyr_graphtext.specs.Earlier.{datum_ids}
use Rattle.pyr_graphtext.proofs.names.datum_ids.Given as goal

-- the numbers of the names so far
abbrev pub invariant-loop-name : goal.invariant-loop-name
invariant-loop-name l = l.ids.items ≡ datum_ids l.datums (take l.name-index l.names)
