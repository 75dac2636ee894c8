-- What the lines of a body come to, where numbers stand in the place of names.
use Rattle.std.specs.Prelude.{◌≡◌, ℕ, List, ◌++◌, length}
use Rattle.pyr_num.specs.declared.name.Name.{Name}
use Rattle.pyr_body.specs.Written.{WrittenLine}
use Rattle.pyr_body.specs.Taking.{LinesTaken}
use Rattle.pyr_graphtext.specs.Statements.{locals_of, numbered_lines}

-- what was taken are these lines of a body that reads and writes these data, the newest first
pub record Stands (reads writes : List Name) (nodes_before : ℕ) (lines : List WrittenLine)
    (taken : LinesTaken) : Type 0 where
  pub reads_count : taken.reads ≡ length reads
  pub slots : taken.slots ≡ reads ++ writes
  pub before : taken.nodes_before ≡ nodes_before
  pub locals : taken.locals ≡ locals_of lines
  pub numbered : taken.lines ≡ numbered_lines reads writes lines
