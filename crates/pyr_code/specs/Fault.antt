-- The first fault of code: what the check visits, in text order, and the first visit with a fault.
use Rattle.std.specs.Prelude.{ℕ, ◌+◌, Bool, true, not, nat_lt, ◌==◌, if◌then◌else◌, Option, Some, None, List, [], ◌∷◌, ◌++◌}
use Rattle.std.specs.Option.{option_or, option_map}
use Rattle.pyr_code.specs.declared.shape.Shape.{Shape}
use Rattle.pyr_code.specs.declared.stack.TheConstants.{MAX_HEIGHT}
use Rattle.pyr_code.specs.declared.code_fault.CodeFault.{CodeFault}
use Rattle.pyr_code.specs.declared.code_fault.CodeFault.TheVariants.{BadCode}
use Rattle.pyr_code.specs.declared.code_fault.BadKind.{BadKind}
use Rattle.pyr_code.specs.declared.code_fault.BadKind.TheVariants.{Local, Slot, Underflow, Tall, Height}
use Rattle.pyr_code.specs.Tree.{Op, Load, Store, Get, Put, Loop, Code, End, Then}
use Rattle.pyr_code.specs.Size.{op_nodes, code_nodes}
use Rattle.pyr_code.specs.Height.{popped, height_after_op, height_after}

-- what the check looks at, with the number that a fault there is told with, and the height of the
-- stack there
pub data Visit : Type 0 where
  -- an op
  Before : Op → ℕ → ℕ → Visit
  -- the end of the code of a loop or of the whole, and the height that it has to leave
  EndOf : ℕ → ℕ → ℕ → Visit

-- the visits of code in text order: each op, and after a loop's op its code and the end of that
abbrev mutual
  pub op_visits : Op → ℕ → ℕ → List Visit
  op_visits (Loop l count turn) place h =
      Before (Loop l count turn) place h
      ∷ (code_visits turn (place + 1) h ++ EndOf place (height_after turn h) h ∷ [])
  op_visits op place h = Before op place h ∷ []

  pub code_visits : Code → ℕ → ℕ → List Visit
  code_visits End place h = []
  code_visits (Then op rest) place h =
      op_visits op place h ++ code_visits rest (place + op_nodes op) (height_after_op op h)

-- the visits of whole code; its end has the number of its ops
abbrev pub visits : Code → List Visit
visits code = code_visits code 0 0 ++ EndOf (code_nodes code) (height_after code 0) 0 ∷ []

-- the local that an op names exists, among so many
abbrev pub has_local : ℕ → Op → Bool
has_local locals (Load l) = nat_lt l locals
has_local locals (Store l) = nat_lt l locals
has_local locals (Loop l count turn) = nat_lt l locals
has_local locals op = true

-- the slot that an op reads, or the output that it writes, exists, among so many
abbrev pub has_slot : ℕ → ℕ → Op → Bool
has_slot reads writes (Get slot) = nat_lt slot (reads + writes)
has_slot reads writes (Put output) = nat_lt output writes
has_slot reads writes op = true

-- the kind of fault of an op at a height; of several, the first in this order
abbrev pub kind_before : Shape → Op → ℕ → Option BadKind
kind_before shape op h =
    if not (has_local shape.locals op) then Some Local
    else (if not (has_slot shape.reads shape.writes op) then Some Slot
    else (if nat_lt h (popped op) then Some Underflow
    else (if nat_lt MAX_HEIGHT (height_after_op op h) then Some Tall else None)))

-- the fault at a visit
abbrev pub fault_at : Shape → Visit → Option CodeFault
fault_at shape (Before op place h) = option_map (BadCode place) (kind_before shape op h)
fault_at shape (EndOf place h wanted) = if h == wanted then None else Some (BadCode place Height)

-- the first fault among visits, and of code; heights past it mean nothing, and are never asked for
abbrev pub first_among : Shape → List Visit → Option CodeFault
first_among shape [] = None
first_among shape (visit ∷ rest) = option_or (fault_at shape visit) (first_among shape rest)

abbrev pub first_fault : Shape → Code → Option CodeFault
first_fault shape code = first_among shape (visits code)
