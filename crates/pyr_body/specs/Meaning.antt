-- What a body means: its outputs, as a function of the frame, the inputs and outputs of zeros.
use Rattle.std.specs.Prelude.{ℕ, zero, suc, List, ◌++◌, length, replicate, slice_index, slice_set, ◌==◌, if◌then◌else◌}
use Rattle.pyr_num.specs.Arithmetic.{applied}
use Rattle.pyr_num.specs.Cells.{word_at, with_word}
use Rattle.pyr_body.specs.Tree.{Expr, Num, Local, Frame, Get, Bin, Sel, Stmt, Set, Put, For, Statements, End, Then}
use Rattle.pyr_body.specs.Parts.{BodyParts}

-- what statements change
pub record State : Type 0 where
  pub locals : List ℕ
  pub outputs : List (List ℕ)

-- the state with a local set
abbrev pub with_local : State → ℕ → ℕ → State
with_local state l word = record state { locals = slice_set state.locals l word }

-- the first turns of a loop, so many; turn k, from 0, first sets the local to k
abbrev pub turns : ℕ → (State → State) → ℕ → State → State
turns l turn zero state = state
turns l turn (suc k) state = turn (with_local (turns l turn k state) l k)

module _ (frame : ℕ) (inputs : List (List ℕ)) where
  -- the value of an expression; the inputs are the first slots, and the outputs follow
  abbrev pub expr_value : Expr → State → ℕ
  expr_value (Num word) state = word
  expr_value (Local l) state = slice_index state.locals l
  expr_value Frame state = frame
  expr_value (Get slot index) state =
      word_at (inputs ++ state.outputs) slot (expr_value index state)
  expr_value (Bin operator a b) state = applied operator (expr_value a state) (expr_value b state)
  expr_value (Sel c a b) state =
      if expr_value c state == 0 then expr_value b state else expr_value a state

  abbrev mutual
    -- the state after a statement
    pub after_stmt : Stmt → State → State
    after_stmt (Set l e) state = with_local state l (expr_value e state)
    after_stmt (Put output index e) state = record state {
      outputs = with_word state.outputs output (expr_value index state) (expr_value e state);
    }
    after_stmt (For l count turn) state = turns l (after_statements turn) count state

    -- the state after statements
    pub after_statements : Statements → State → State
    after_statements End state = state
    after_statements (Then s rest) state = after_statements rest (after_stmt s state)

-- the outputs that a body leaves where it found these, with its locals at 0 in the beginning
abbrev pub body_meaning : BodyParts → ℕ → List (List ℕ) → List (List ℕ) → List (List ℕ)
body_meaning body frame inputs outputs =
    let start : State = record { locals = replicate (length body.locals) 0; outputs = outputs } in
    (after_statements frame inputs body.statements start).outputs
