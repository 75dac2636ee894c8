-- The code of a body: one op for each expression and statement, in evaluation order.
use Rattle.std.specs.Prelude.{List, [], ◌∷◌, ◌++◌}
use Rattle.pyr_body.specs.Tree.{Expr, Num, Local, Frame, Get, Bin, Sel, Stmt, Set, Put, For, Statements, End, Then}
use Rattle.pyr_code.specs.Tree.{Op, Code, Push, Load, Store, Frame as FrameOp, Get as GetOp, Put as PutOp, Bin as BinOp, Sel as SelOp, Loop}
use Rattle.pyr_code.specs.Seen.{code_from}

-- the ops of an expression, which push its value: those of its operands, from left to right, and
-- then its own
abbrev pub expr_ops : Expr → List Op
expr_ops (Num word) = Push word ∷ []
expr_ops (Local l) = Load l ∷ []
expr_ops Frame = FrameOp ∷ []
expr_ops (Get slot index) = expr_ops index ++ GetOp slot ∷ []
expr_ops (Bin operator a b) = expr_ops a ++ (expr_ops b ++ BinOp operator ∷ [])
expr_ops (Sel c a b) = expr_ops c ++ (expr_ops a ++ (expr_ops b ++ SelOp ∷ []))

abbrev mutual
  -- the ops of a statement; a `put` has its index before its value, and a loop is one op
  pub stmt_ops : Stmt → List Op
  stmt_ops (Set l e) = expr_ops e ++ Store l ∷ []
  stmt_ops (Put output index e) = expr_ops index ++ (expr_ops e ++ PutOp output ∷ [])
  stmt_ops (For l count turn) = Loop l count (code_from (statements_ops turn)) ∷ []

  -- the ops of statements, in their order
  pub statements_ops : Statements → List Op
  statements_ops End = []
  statements_ops (Then s rest) = stmt_ops s ++ statements_ops rest

-- the code of statements
abbrev pub generated : Statements → Code
generated statements = code_from (statements_ops statements)
