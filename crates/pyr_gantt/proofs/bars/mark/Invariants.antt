use Rattle.std.proofs.Common.{◌≡◌, ℕ, ◌<◌, cond}
use Rattle.std.specs.Prelude.{◌&&◌, nat_le, nat_lt, slice_index}
use Rattle.pyr_gantt.specs.declared.bars.TheConstants.{BUSY}
use Rattle.pyr_gantt.proofs.bars.mark.Given as goal

abbrev pub invariant-loop-column : goal.invariant-loop-column
invariant-loop-column l = record {
  marked : (i : ℕ) → slice_index l.columns i ≡ cond (nat_le l.from i && nat_lt i l.column) BUSY (slice_index l.initial.columns i);
  none : l.to < l.from → l.column ≡ l.from;
}
