-- The parts of a body.
use Rattle.std.specs.Prelude.{ℕ, List}
use Rattle.pyr_num.specs.declared.name.Name.{Name}
use Rattle.pyr_body.specs.Tree.{Statements}

-- the statements, the names of the locals by number, and how many data are read and written
pub record BodyParts : Type 0 where
  pub statements : Statements
  pub locals : List Name
  pub reads : ℕ
  pub writes : ℕ
