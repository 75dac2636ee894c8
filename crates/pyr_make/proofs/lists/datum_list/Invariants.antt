use Rattle.std.proofs.Common.{◌≡◌, map}
use Rattle.std.specs.List.{range_with_len}
use Rattle.pyr_make.specs.Layered.{layered_datum}
use Rattle.pyr_make.proofs.lists.datum_list.Given as goal

abbrev pub invariant-loop-datum : goal.invariant-loop-datum
invariant-loop-datum l = l.list.items ≡ map layered_datum (range_with_len 0 l.datum)
