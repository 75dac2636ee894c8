-- Expressions and statements as plain trees, with the cases of the enums `Expr` and `Stmt`.
use Rattle.std.specs.Prelude.{ℕ}
use Rattle.pyr_num.specs.declared.arithmetic.Bin.{Bin as Operator}

-- an expression
pub data Expr : Type 0 where
  Num : ℕ → Expr
  Local : ℕ → Expr
  Frame : Expr
  Get : ℕ → Expr → Expr
  Bin : Operator → Expr → Expr → Expr
  Sel : Expr → Expr → Expr → Expr

mutual
  -- a statement; a loop has its local, its count of turns, and the statements of a turn
  pub data Stmt : Type 0 where
    Set : ℕ → Expr → Stmt
    Put : ℕ → Expr → Expr → Stmt
    For : ℕ → ℕ → Statements → Stmt

  -- statements, in their order
  pub data Statements : Type 0 where
    End : Statements
    Then : Stmt → Statements → Statements
