use Rattle.std.proofs.Common.{◌≤◌, ◌*◌, arith}
use Rattle.std.proofs.Math.Nat.{div-le_of_le-mul}
use Rattle.pyr_gantt.proofs.ColumnLemmas.{first-column}
use Rattle.pyr_gantt.proofs.bars.first_column.Goals as goal

pub returns-clause-columns : goal.returns-clause-columns
returns-clause-columns c = λ k. first-column (c.args.start * 60) c.args.time k c.requires.some

pub returns-clause-within : goal.returns-clause-within
returns-clause-within c =
    let late : c.args.start * 60 ≤ c.args.time * 60 = omega (arith, c.requires.late) in
    div-le_of_le-mul c.args.time late
