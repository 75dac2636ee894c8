use Rattle.std.proofs.Common.{◌*◌}
use Rattle.pyr_gantt.proofs.ColumnLemmas.{end-column}
use Rattle.pyr_gantt.proofs.bars.end_column.Goals as goal

pub returns-clause-columns : goal.returns-clause-columns
returns-clause-columns c = λ k. rw c.div_ceil.ensures (end-column (c.args.finish * 60) c.args.time c.requires.some k)
