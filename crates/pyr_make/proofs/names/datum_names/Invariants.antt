use Rattle.std.proofs.Common.{◌≡◌, map}
use Rattle.std.specs.List.{range_with_len}
use Rattle.pyr_make.specs.Layered.{layered_datum_name}
use Rattle.pyr_make.proofs.names.datum_names.Given as goal

abbrev pub invariant-loop-datum : goal.invariant-loop-datum
invariant-loop-datum l = l.names.items ≡ map layered_datum_name (range_with_len 0 l.datum)
