use Rattle.std.proofs.Common.{◌≡◌, ℕ, ◌<◌, if◌then◌else◌, length, take}
use Rattle.std.specs.Prelude.{nat_eq, slice_index_or}
use Rattle.std.specs.List.{list_any}
use Rattle.pyr_graph.specs.declared.writers.Writer.{Writer}
use Rattle.pyr_graph.specs.System.{datum_numbers}
use Rattle.pyr_graph.specs.Tables.{joined}
use Rattle.pyr_graph.proofs.writers.note.Given as goal

-- the data so far are noted
abbrev pub invariant-loop-datum : goal.invariant-loop-datum
invariant-loop-datum l =
    (d : ℕ) (w : Writer) → d < length l.table → slice_index_or l.table d w
    ≡ (if list_any (nat_eq d) (datum_numbers (take l.datum-index l.writes))
    then joined (slice_index_or l.initial.table d w) l.task else slice_index_or l.initial.table d w)
