-- A run of code, on a stack, locals and cells.
use Rattle.std.specs.Prelude.{ℕ, List}
use Rattle.pyr_num.specs.Cells.{CellLists}
use Rattle.pyr_code.specs.Seen.{code_of}
use Rattle.pyr_code.specs.Meaning.{State, outputs_of}
use Rattle.pyr_code.specs.Verified.{ShapedCode}

-- the cells after a run: the outputs become those of the code's meaning, and all else stays
abbrev pub executed : ℕ → ShapedCode → CellLists → CellLists
executed frame code cells = record cells {
  outputs = outputs_of frame cells.inputs (code_of code.ops) code.shape.locals cells.outputs;
}

-- the state within a run
abbrev pub state_of : List ℕ → List ℕ → CellLists → State
state_of stack locals cells = record { stack = stack; locals = locals; outputs = cells.outputs }
