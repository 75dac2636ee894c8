use Rattle.std.proofs.Common.{◌≡◌, ◌-◌}
use Rattle.std.specs.List.{range_with_len}
use Rattle.pyr_make.specs.Layered.{as_datums}
use Rattle.pyr_make.proofs.lists.print_list.Given as goal

abbrev pub invariant-loop-datum : goal.invariant-loop-datum
invariant-loop-datum l = l.list.items ≡ as_datums (range_with_len l.first (l.datum - l.first))
