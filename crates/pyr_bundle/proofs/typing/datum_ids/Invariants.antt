use Rattle.std.proofs.Common.{◌≡◌, map, take}
use Rattle.pyr_bundle.specs.Parts.{datum_id}
use Rattle.pyr_bundle.proofs.typing.datum_ids.Given as goal

abbrev pub invariant-loop-number : goal.invariant-loop-number
invariant-loop-number l = l.ids.items ≡ map datum_id (take l.number-index l.numbers)
