-- The height of the stack: it depends on the code alone, never on the words.
use Rattle.std.specs.Prelude.{ℕ, ◌+◌, ◌-◌, max}
use Rattle.pyr_code.specs.Tree.{Op, Push, Load, Store, Frame, Get, Put, Bin, Sel, Loop, Code, End, Then}

-- how many words an op pops
abbrev pub popped : Op → ℕ
popped (Push word) = 0
popped (Load l) = 0
popped (Store l) = 1
popped Frame = 0
popped (Get slot) = 1
popped (Put output) = 2
popped (Bin operator) = 2
popped Sel = 3
popped (Loop l count turn) = 0

-- how many words it then pushes
abbrev pub pushed : Op → ℕ
pushed (Push word) = 1
pushed (Load l) = 1
pushed (Store l) = 0
pushed Frame = 1
pushed (Get slot) = 1
pushed (Put output) = 0
pushed (Bin operator) = 1
pushed Sel = 1
pushed (Loop l count turn) = 0

-- the height after an op, and after code
abbrev pub height_after_op : Op → ℕ → ℕ
height_after_op op h = h - popped op + pushed op

abbrev pub height_after : Code → ℕ → ℕ
height_after End h = h
height_after (Then op rest) h = height_after rest (height_after_op op h)

-- the greatest height before, within or after an op, and code
abbrev mutual
  pub greatest_height_op : Op → ℕ → ℕ
  greatest_height_op (Loop l count turn) h = greatest_height turn h
  greatest_height_op op h = max h (height_after_op op h)

  pub greatest_height : Code → ℕ → ℕ
  greatest_height End h = h
  greatest_height (Then op rest) h =
      max (greatest_height_op op h) (greatest_height rest (height_after_op op h))
