-- The plain trees that the values of the enums `Expr` and `Stmt` stand for.
use Rattle.std.specs.Prelude.{List, [], ◌∷◌, map}
use Rattle.pyr_body.specs.declared.expr.Expr.{Expr as ExprValue}
use Rattle.pyr_body.specs.declared.expr.Expr.TheOpen.{Expr-F, Num as NumF, Local as LocalF, Frame as FrameF, Get as GetF, Bin as BinF, Sel as SelF}
use Rattle.pyr_body.specs.declared.expr.Expr.TheFolds.{fold-Expr}
use Rattle.pyr_body.specs.declared.stmt.Stmt.{Stmt as StmtValue}
use Rattle.pyr_body.specs.declared.stmt.Stmt.TheOpen.{Stmt-F, Set as SetF, Put as PutF, For as ForF}
use Rattle.pyr_body.specs.declared.stmt.Stmt.TheFolds.{fold-Stmt}
use Rattle.pyr_body.specs.Tree.{Expr, Num, Local, Frame, Get, Bin, Sel, Stmt, Set, Put, For, Statements, End, Then}

-- an expression, where the expressions within it are trees already
abbrev pub expr_layer : Expr-F Expr → Expr
expr_layer (NumF word) = Num word
expr_layer (LocalF l) = Local l
expr_layer FrameF = Frame
expr_layer (GetF slot index) = Get slot index
expr_layer (BinF operator a b) = Bin operator a b
expr_layer (SelF c a b) = Sel c a b

-- the tree of an expression
abbrev pub expr_of : ExprValue → Expr
expr_of = fold-Expr Expr expr_layer

-- the statements of a list, in its order
abbrev pub statements_from : List Stmt → Statements
statements_from [] = End
statements_from (s ∷ rest) = Then s (statements_from rest)

-- a statement, where the statements within it are trees already
abbrev pub stmt_layer : Stmt-F Stmt → Stmt
stmt_layer (SetF l e) = Set l (expr_of e)
stmt_layer (PutF output index e) = Put output (expr_of index) (expr_of e)
stmt_layer (ForF l count turn) = For l count (statements_from turn)

-- the tree of a statement
abbrev pub stmt_of : StmtValue → Stmt
stmt_of = fold-Stmt Stmt stmt_layer

-- the tree of a list of statements
abbrev pub statements_of : List StmtValue → Statements
statements_of statements = statements_from (map stmt_of statements)
