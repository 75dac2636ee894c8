use Rattle.std.proofs.Common.{◌≡◌, ◌||◌, ℕ, take}
use Rattle.std.specs.Prelude.{nat_eq}
use Rattle.std.specs.List.{list_any}
use Rattle.pyr_graph.specs.System.{datum_numbers}
use Rattle.pyr_emit.specs.Marks.{is_marked}
use Rattle.pyr_emit.proofs.readers.mark.Given as goal

abbrev pub invariant-loop-datum : goal.invariant-loop-datum
invariant-loop-datum l =
    (d : ℕ) → is_marked l.marks d ≡ (list_any (nat_eq d) (datum_numbers (take l.datum-index l.datums)) || is_marked l.fn.marks d)
