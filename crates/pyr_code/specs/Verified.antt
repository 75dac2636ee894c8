-- Verified code: its parts, and what its type keeps.
use Rattle.std.specs.Prelude.{List}
use Rattle.pyr_code.specs.declared.op.Op.{Op as OpValue}
use Rattle.pyr_code.specs.declared.shape.Shape.{Shape}
use Rattle.pyr_code.specs.Seen.{code_of}
use Rattle.pyr_code.specs.Size.{IsWithinLimits}
use Rattle.pyr_code.specs.WellFormed.{IsWellFormed}

-- code, and the shape that it is for
pub record ShapedCode : Type 0 where
  pub ops : List OpValue
  pub shape : Shape

-- the code is well-formed for the shape, and within the limits
pub record IsVerified (code : ShapedCode) : Type 0 where
  pub well_formed : IsWellFormed code.shape (code_of code.ops)
  pub limits : IsWithinLimits code.shape (code_of code.ops)
