-- Expressions and lines as they are written, with names in the place of numbers: plain trees with
-- the cases of the enums `WrittenExpr` and `WrittenLine`.
use Rattle.std.specs.Prelude.{ℕ, ◌+◌, max}
use Rattle.pyr_num.specs.declared.arithmetic.Bin.{Bin as Operator}
use Rattle.pyr_num.specs.declared.name.Name.{Name}

-- an expression
pub data WrittenExpr : Type 0 where
  Num : ℕ → WrittenExpr
  Local : Name → WrittenExpr
  Frame : WrittenExpr
  Get : Name → WrittenExpr → WrittenExpr
  Bin : Operator → WrittenExpr → WrittenExpr → WrittenExpr
  Sel : WrittenExpr → WrittenExpr → WrittenExpr → WrittenExpr

-- a line
pub data WrittenLine : Type 0 where
  Set : Name → WrittenExpr → WrittenLine
  Put : Name → WrittenExpr → WrittenExpr → WrittenLine
  For : Name → ℕ → WrittenLine
  Done : WrittenLine

-- the nodes of an expression
abbrev pub written_nodes : WrittenExpr → ℕ
written_nodes (Num word) = 1
written_nodes (Local name) = 1
written_nodes Frame = 1
written_nodes (Get name index) = 1 + written_nodes index
written_nodes (Bin operator a b) = 1 + written_nodes a + written_nodes b
written_nodes (Sel c a b) = 1 + written_nodes c + written_nodes a + written_nodes b

-- how many of its brackets are open at once, at most
abbrev pub written_brackets : WrittenExpr → ℕ
written_brackets (Num word) = 0
written_brackets (Local name) = 0
written_brackets Frame = 0
written_brackets (Get name index) = 1 + written_brackets index
written_brackets (Bin operator a b) = 1 + max (written_brackets a) (written_brackets b)
written_brackets (Sel c a b) =
    1 + max (written_brackets c) (max (written_brackets a) (written_brackets b))

-- the nodes that a line brings
abbrev pub written_line_nodes : WrittenLine → ℕ
written_line_nodes (Set name e) = 1 + written_nodes e
written_line_nodes (Put name index e) = 1 + written_nodes index + written_nodes e
written_line_nodes (For name count) = 1
written_line_nodes Done = 0

-- how many brackets of a line are open at once, at most
abbrev pub written_line_brackets : WrittenLine → ℕ
written_line_brackets (Set name e) = written_brackets e
written_line_brackets (Put name index e) = max (1 + written_brackets index) (written_brackets e)
written_line_brackets (For name count) = 0
written_line_brackets Done = 0
