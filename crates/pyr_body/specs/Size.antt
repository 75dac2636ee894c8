-- How large a body is, and how much it does.
use Rattle.std.specs.Prelude.{ℕ, ◌+◌, ◌*◌, max}
use Rattle.pyr_body.specs.Tree.{Expr, Num, Local, Frame, Get, Bin, Sel, Stmt, Set, Put, For, Statements, End, Then}

-- the nodes of an expression: itself, and those of the expressions within it
abbrev pub expr_nodes : Expr → ℕ
expr_nodes (Num word) = 1
expr_nodes (Local l) = 1
expr_nodes Frame = 1
expr_nodes (Get slot index) = 1 + expr_nodes index
expr_nodes (Bin operator a b) = 1 + expr_nodes a + expr_nodes b
expr_nodes (Sel c a b) = 1 + expr_nodes c + expr_nodes a + expr_nodes b

-- the nodes of statements: each statement and each expression is one
abbrev mutual
  pub stmt_nodes : Stmt → ℕ
  stmt_nodes (Set l e) = 1 + expr_nodes e
  stmt_nodes (Put output index e) = 1 + expr_nodes index + expr_nodes e
  stmt_nodes (For l count turn) = 1 + statements_nodes turn

  pub statements_nodes : Statements → ℕ
  statements_nodes End = 0
  statements_nodes (Then s rest) = stmt_nodes s + statements_nodes rest

-- the operations that a run makes: one for each node that it comes to, and one for each turn of a
-- loop
abbrev mutual
  pub stmt_work : Stmt → ℕ
  stmt_work (Set l e) = 1 + expr_nodes e
  stmt_work (Put output index e) = 1 + expr_nodes index + expr_nodes e
  stmt_work (For l count turn) = 1 + count * (1 + statements_work turn)

  pub statements_work : Statements → ℕ
  statements_work End = 0
  statements_work (Then s rest) = stmt_work s + statements_work rest

-- the greatest number of loops that stand in one another
abbrev mutual
  pub stmt_loops : Stmt → ℕ
  stmt_loops (For l count turn) = 1 + statements_loops turn
  stmt_loops s = 0

  pub statements_loops : Statements → ℕ
  statements_loops End = 0
  statements_loops (Then s rest) = max (stmt_loops s) (statements_loops rest)

-- the greatest count of a loop
abbrev mutual
  pub stmt_count : Stmt → ℕ
  stmt_count (For l count turn) = max count (statements_count turn)
  stmt_count s = 0

  pub statements_count : Statements → ℕ
  statements_count End = 0
  statements_count (Then s rest) = max (stmt_count s) (statements_count rest)

-- how many brackets are open at once, at most, where an expression is written
abbrev pub expr_brackets : Expr → ℕ
expr_brackets (Num word) = 0
expr_brackets (Local l) = 0
expr_brackets Frame = 0
expr_brackets (Get slot index) = 1 + expr_brackets index
expr_brackets (Bin operator a b) = 1 + max (expr_brackets a) (expr_brackets b)
expr_brackets (Sel c a b) = 1 + max (expr_brackets c) (max (expr_brackets a) (expr_brackets b))

-- the greatest number of brackets that are open at once on a line; the index of a `put` stands in
-- brackets of its own
abbrev mutual
  pub stmt_depth : Stmt → ℕ
  stmt_depth (Set l e) = expr_brackets e
  stmt_depth (Put output index e) = max (1 + expr_brackets index) (expr_brackets e)
  stmt_depth (For l count turn) = statements_depth turn

  pub statements_depth : Statements → ℕ
  statements_depth End = 0
  statements_depth (Then s rest) = max (stmt_depth s) (statements_depth rest)
