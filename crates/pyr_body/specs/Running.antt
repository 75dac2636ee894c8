-- The state of a run in the memory of its evaluator.
use Rattle.std.specs.Prelude.{ℕ, List}
use Rattle.pyr_num.specs.Cells.{CellLists}
use Rattle.pyr_body.specs.Meaning.{State}

-- the locals, and the outputs in the cells
abbrev pub state_of : List ℕ → CellLists → State
state_of locals cells = record { locals = locals; outputs = cells.outputs }
