-- Trees are stored as the values of the enums that they stand for.
use Rattle.std.specs.Prelude.{◌≡◌, List, [], ◌∷◌, refl}
use Rattle.std.proofs.Common.{◌∙◌, ap}
use Rattle.std.specs.Coded.{Coded, code_by, coded_list}
use Rattle.pyr_body.specs.declared.expr.Expr.{Expr as ExprValue}
use Rattle.pyr_body.specs.declared.expr.Expr.TheOpen.{Num as NumF, Local as LocalF, Frame as FrameF, Get as GetF, Bin as BinF, Sel as SelF}
use Rattle.pyr_body.specs.declared.expr.Expr.TheViews.{roll-Expr}
use Rattle.pyr_body.specs.declared.expr.Expr.TheFolds.{fold-roll-Expr}
use Rattle.pyr_body.specs.declared.stmt.Stmt.{Stmt as StmtValue}
use Rattle.pyr_body.specs.declared.stmt.Stmt.TheOpen.{Set as SetF, Put as PutF, For as ForF}
use Rattle.pyr_body.specs.declared.stmt.Stmt.TheViews.{roll-Stmt}
use Rattle.pyr_body.specs.declared.stmt.Stmt.TheFolds.{fold-roll-Stmt}
use Rattle.pyr_body.specs.contracts.expr.Expr as expr
use Rattle.pyr_body.specs.contracts.stmt.Stmt as stmt
use Rattle.pyr_body.specs.Tree.{Expr, Num, Local, Frame, Get, Bin, Sel, Stmt, Set, Put, For, Statements, End, Then}
use Rattle.pyr_body.specs.Seen.{expr_of, expr_layer, stmt_of, stmt_layer, statements_of}

-- a value with the tree of an expression
abbrev pub expr_from : Expr → ExprValue
expr_from (Num word) = roll-Expr (NumF word)
expr_from (Local l) = roll-Expr (LocalF l)
expr_from Frame = roll-Expr FrameF
expr_from (Get slot index) = roll-Expr (GetF slot (expr_from index))
expr_from (Bin operator a b) = roll-Expr (BinF operator (expr_from a) (expr_from b))
expr_from (Sel c a b) = roll-Expr (SelF (expr_from c) (expr_from a) (expr_from b))

-- values with the tree of a statement, and of statements
abbrev mutual
  pub stmt_from : Stmt → StmtValue
  stmt_from (Set l e) = roll-Stmt (SetF l (expr_from e))
  stmt_from (Put output index e) = roll-Stmt (PutF output (expr_from index) (expr_from e))
  stmt_from (For l count turn) = roll-Stmt (ForF l count (values_from turn))

  pub values_from : Statements → List StmtValue
  values_from End = []
  values_from (Then s rest) = stmt_from s ∷ values_from rest

-- a tree is that of its value
pub expr_of-expr_from : (e : Expr) → expr_of (expr_from e) ≡ e
expr_of-expr_from (Num word) = fold-roll-Expr Expr expr_layer (NumF word)
expr_of-expr_from (Local l) = fold-roll-Expr Expr expr_layer (LocalF l)
expr_of-expr_from Frame = fold-roll-Expr Expr expr_layer FrameF
expr_of-expr_from (Get slot index) =
    fold-roll-Expr Expr expr_layer (GetF slot (expr_from index))
    ∙ ap (Get slot) (expr_of-expr_from index)
expr_of-expr_from (Bin operator a b) =
    fold-roll-Expr Expr expr_layer (BinF operator (expr_from a) (expr_from b))
    ∙ (λ i. Bin operator (expr_of-expr_from a i) (expr_of-expr_from b i))
expr_of-expr_from (Sel c a b) =
    fold-roll-Expr Expr expr_layer (SelF (expr_from c) (expr_from a) (expr_from b))
    ∙ (λ i. Sel (expr_of-expr_from c i) (expr_of-expr_from a i) (expr_of-expr_from b i))

mutual
  pub stmt_of-stmt_from : (s : Stmt) → stmt_of (stmt_from s) ≡ s
  stmt_of-stmt_from (Set l e) =
      fold-roll-Stmt Stmt stmt_layer (SetF l (expr_from e)) ∙ ap (Set l) (expr_of-expr_from e)
  stmt_of-stmt_from (Put output index e) =
      fold-roll-Stmt Stmt stmt_layer (PutF output (expr_from index) (expr_from e))
      ∙ (λ i. Put output (expr_of-expr_from index i) (expr_of-expr_from e i))
  stmt_of-stmt_from (For l count turn) =
      fold-roll-Stmt Stmt stmt_layer (ForF l count (values_from turn))
      ∙ ap (For l count) (statements_of-values_from turn)

  pub statements_of-values_from : (ss : Statements) → statements_of (values_from ss) ≡ ss
  statements_of-values_from End = refl
  statements_of-values_from (Then s rest) =
      λ i. Then (stmt_of-stmt_from s i) (statements_of-values_from rest i)

-- an expression is stored as a value
abbrev pub expr_code : Coded Expr
expr_code = code_by ExprValue expr.the_row.coded expr_from expr_of expr_of-expr_from

-- statements are stored as a list of values
abbrev pub statements_code : Coded Statements
statements_code =
    code_by (List StmtValue) (coded_list stmt.the_row.coded) values_from statements_of
    statements_of-values_from
