-- What code does to the stack, the locals and the outputs.
use Rattle.std.specs.Prelude.{ℕ, zero, suc, List, [], ◌∷◌, ◌++◌, slice_index, slice_set, ◌==◌, if◌then◌else◌, replicate}
use Rattle.pyr_num.specs.Arithmetic.{applied}
use Rattle.pyr_num.specs.Cells.{word_at, with_word}
use Rattle.pyr_code.specs.Tree.{Op, Push, Load, Store, Frame, Get, Put, Bin, Sel, Loop, Code, End, Then}

-- what code changes; the topmost word of the stack comes first
pub record State : Type 0 where
  pub stack : List ℕ
  pub locals : List ℕ
  pub outputs : List (List ℕ)

-- the topmost word, and the words below it
abbrev pub top : List ℕ → ℕ
top [] = 0
top (word ∷ rest) = word

abbrev pub below : List ℕ → List ℕ
below [] = []
below (word ∷ rest) = rest

-- the state with another stack, and with a local set
abbrev pub with_stack : State → List ℕ → State
with_stack state words = record state { stack = words }

abbrev pub with_local : State → ℕ → ℕ → State
with_local state l word = record state { locals = slice_set state.locals l word }

-- the state at the start: an empty stack, so many locals at 0, and the outputs
abbrev pub start_of : ℕ → List (List ℕ) → State
start_of locals outputs = record { stack = []; locals = replicate locals 0; outputs = outputs }

-- the first turns of a loop, so many; turn k, from 0, first sets the local to k
abbrev pub turns : ℕ → (State → State) → ℕ → State → State
turns l turn zero state = state
turns l turn (suc k) state = turn (with_local (turns l turn k state) l k)

module _ (frame : ℕ) (inputs : List (List ℕ)) where
  abbrev mutual
    -- the state after an op
    pub after_op : Op → State → State
    after_op (Push word) state = with_stack state (word ∷ state.stack)
    after_op (Load l) state = with_stack state (slice_index state.locals l ∷ state.stack)
    after_op (Store l) state = with_local (with_stack state (below state.stack)) l (top state.stack)
    after_op Frame state = with_stack state (frame ∷ state.stack)
    after_op (Get slot) state =
        let index = top state.stack in
        with_stack state (word_at (inputs ++ state.outputs) slot index ∷ below state.stack)
    after_op (Put output) state =
        let word = top state.stack in
        let index = top (below state.stack) in
        record state {
          stack = below (below state.stack);
          outputs = with_word state.outputs output index word;
        }
    after_op (Bin operator) state =
        let right = top state.stack in
        let left = top (below state.stack) in
        with_stack state (applied operator left right ∷ below (below state.stack))
    after_op Sel state =
        let b = top state.stack in
        let a = top (below state.stack) in
        let c = top (below (below state.stack)) in
        with_stack state ((if c == 0 then b else a) ∷ below (below (below state.stack)))
    after_op (Loop l count turn) state = turns l (after_code turn) count state

    -- the state after code
    pub after_code : Code → State → State
    after_code End state = state
    after_code (Then op rest) state = after_code rest (after_op op state)

  -- the outputs that whole code leaves, with so many locals
  abbrev pub outputs_of : Code → ℕ → List (List ℕ) → List (List ℕ)
  outputs_of code locals outputs = (after_code code (start_of locals outputs)).outputs
