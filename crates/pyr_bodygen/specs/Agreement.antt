-- Code that is made of a body, and code that does what a body does.
use Rattle.std.specs.Prelude.{◌≡◌, ℕ, List, length}
use Rattle.pyr_body.specs.Parts.{BodyParts}
use Rattle.pyr_body.specs.Meaning.{body_meaning}
use Rattle.pyr_code.specs.declared.shape.Shape.{Shape}
use Rattle.pyr_code.specs.Seen.{code_of}
use Rattle.pyr_code.specs.Meaning.{outputs_of}
use Rattle.pyr_code.specs.Verified.{ShapedCode}
use Rattle.pyr_bodygen.specs.Generated.{generated}

-- what the code of a body may name: the data that the body reads and writes, and its locals
abbrev pub shape_of : BodyParts → Shape
shape_of body = record { reads = body.reads; writes = body.writes; locals = length body.locals }

-- code with this shape and with the ops of the body
pub record IsCodeOf (body : BodyParts) (code : ShapedCode) : Type 0 where
  pub shape : code.shape ≡ shape_of body
  pub ops : code_of code.ops ≡ generated body.statements

-- for every frame, all inputs and all outputs that are found, the code leaves the outputs that the
-- body leaves
abbrev pub SameMeaning : BodyParts → ShapedCode → Type 0
SameMeaning body code =
    (frame : ℕ) (inputs outputs : List (List ℕ))
    → outputs_of frame inputs (code_of code.ops) code.shape.locals outputs
    ≡ body_meaning body frame inputs outputs
