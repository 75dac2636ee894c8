-- Well-formed code: it can run from an empty stack, whatever the words are.
use Rattle.std.specs.Prelude.{ℕ, ◌+◌, ◌≡◌, ◌<◌, ⊤}
use Rattle.pyr_code.specs.declared.shape.Shape.{Shape}
use Rattle.pyr_code.specs.declared.stack.TheConstants.{MAX_HEIGHT}
use Rattle.pyr_code.specs.Tree.{Op, Push, Load, Store, Frame, Get, Put, Bin, Sel, Loop, Code, End, Then}
use Rattle.pyr_code.specs.Height.{height_after_op, height_after}

module _ (reads writes locals : ℕ) where
  abbrev mutual
    -- an op at a height: its local or slot exists, the stack holds what it pops, and stays low
    -- enough; a turn of a loop is fine too, and leaves the height that it found
    pub IsFineOp : Op → ℕ → Type 0
    IsFineOp (Push word) h = h < MAX_HEIGHT
    IsFineOp (Load l) h = (l < locals) × (h < MAX_HEIGHT)
    IsFineOp (Store l) h = (l < locals) × (0 < h)
    IsFineOp Frame h = h < MAX_HEIGHT
    IsFineOp (Get slot) h = (slot < reads + writes) × (0 < h)
    IsFineOp (Put output) h = (output < writes) × (1 < h)
    IsFineOp (Bin operator) h = 1 < h
    IsFineOp Sel h = 2 < h
    IsFineOp (Loop l count turn) h = (l < locals) × IsFine turn h × (height_after turn h ≡ h)

    -- each op is fine at the height that those before it leave
    pub IsFine : Code → ℕ → Type 0
    IsFine End h = ⊤
    IsFine (Then op rest) h = IsFineOp op h × IsFine rest (height_after_op op h)

-- code is fine from an empty stack, and leaves it empty
pub record IsWellFormed (shape : Shape) (code : Code) : Type 0 where
  pub fine : IsFine shape.reads shape.writes shape.locals code 0
  pub ends_empty : height_after code 0 ≡ 0
