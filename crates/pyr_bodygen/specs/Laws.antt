-- What holds of the code of every body, whoever made it.
use Rattle.std.specs.Prelude.{◌≡◌, ℕ}
use Rattle.pyr_num.specs.Cells.{CellLists}
use Rattle.pyr_body.specs.Parts.{BodyParts}
use Rattle.pyr_body.specs.Body.{IsBody}
use Rattle.pyr_body.specs.Meaning.{body_meaning}
use Rattle.pyr_code.specs.Running.{executed}
use Rattle.pyr_code.specs.Verified.{ShapedCode, IsVerified}
use Rattle.pyr_bodygen.specs.Agreement.{IsCodeOf}

-- a run of the code leaves in the cells what the body leaves there: its outputs, and all else as it
-- was
abbrev pub CodeRunsAsItsBody : Type 0
CodeRunsAsItsBody =
    (body : BodyParts) (code : ShapedCode) (frame : ℕ) (cells : CellLists) → IsCodeOf body code
    → executed frame code cells
    ≡ record cells { outputs = body_meaning body frame cells.inputs cells.outputs }

-- the code is well-formed and within the limits
abbrev pub CodeOfABodyIsVerified : Type 0
CodeOfABodyIsVerified =
    (body : BodyParts) (code : ShapedCode) → IsBody body → IsCodeOf body code → IsVerified code
