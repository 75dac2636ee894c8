-- How large code is, and the limits that it keeps.
use Rattle.std.specs.Prelude.{ℕ, ◌+◌, ◌*◌, ◌≤◌, max}
use Rattle.pyr_num.specs.declared.limits.TheConstants.Limits.{NODES, LOOPS, COUNT, LOCALS, WORK}
use Rattle.pyr_code.specs.declared.shape.Shape.{Shape}
use Rattle.pyr_code.specs.Tree.{Op, Loop, Code, End, Then}

-- the number of ops, those within loops among them
abbrev mutual
  pub op_nodes : Op → ℕ
  op_nodes (Loop l count turn) = 1 + code_nodes turn
  op_nodes op = 1

  pub code_nodes : Code → ℕ
  code_nodes End = 0
  code_nodes (Then op rest) = op_nodes op + code_nodes rest

-- the number of loops that stand in one another
abbrev mutual
  pub op_loops : Op → ℕ
  op_loops (Loop l count turn) = 1 + code_loops turn
  op_loops op = 0

  pub code_loops : Code → ℕ
  code_loops End = 0
  code_loops (Then op rest) = max (op_loops op) (code_loops rest)

-- the greatest count of a loop
abbrev mutual
  pub op_count : Op → ℕ
  op_count (Loop l count turn) = max count (code_count turn)
  op_count op = 0

  pub code_count : Code → ℕ
  code_count End = 0
  code_count (Then op rest) = max (op_count op) (code_count rest)

-- the steps of a run: one for each op, and one for each turn of a loop
abbrev mutual
  pub op_work : Op → ℕ
  op_work (Loop l count turn) = 1 + count * (1 + code_work turn)
  op_work op = 1

  pub code_work : Code → ℕ
  code_work End = 0
  code_work (Then op rest) = op_work op + code_work rest

-- code for a shape within the limits
pub record IsWithinLimits (shape : Shape) (code : Code) : Type 0 where
  pub nodes : code_nodes code ≤ NODES
  pub loops : code_loops code ≤ LOOPS
  pub count : code_count code ≤ COUNT
  pub locals : shape.locals ≤ LOCALS
  pub work : code_work code ≤ WORK
