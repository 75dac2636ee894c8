-- The plain trees that the values of the enums `WrittenExpr` and `WrittenLine` stand for.
use Rattle.pyr_body.specs.declared.written_expr.WrittenExpr.{WrittenExpr as WrittenExprValue}
use Rattle.pyr_body.specs.declared.written_expr.WrittenExpr.TheOpen.{WrittenExpr-F, Num as NumF, Local as LocalF, Frame as FrameF, Get as GetF, Bin as BinF, Sel as SelF}
use Rattle.pyr_body.specs.declared.written_expr.WrittenExpr.TheFolds.{fold-WrittenExpr}
use Rattle.pyr_body.specs.declared.written_line.WrittenLine.{WrittenLine as WrittenLineValue}
use Rattle.pyr_body.specs.declared.written_line.WrittenLine.TheVariants as line
use Rattle.pyr_body.specs.Written.{WrittenExpr, Num, Local, Frame, Get, Bin, Sel, WrittenLine, Set, Put, For, Done}

-- an expression, where the expressions within it are trees already
abbrev pub written_layer : WrittenExpr-F WrittenExpr → WrittenExpr
written_layer (NumF word) = Num word
written_layer (LocalF name) = Local name
written_layer FrameF = Frame
written_layer (GetF name index) = Get name index
written_layer (BinF operator a b) = Bin operator a b
written_layer (SelF c a b) = Sel c a b

-- the tree of an expression
abbrev pub written_of : WrittenExprValue → WrittenExpr
written_of = fold-WrittenExpr WrittenExpr written_layer

-- the tree of a line
abbrev pub written_line_of : WrittenLineValue → WrittenLine
written_line_of (line.Set name e) = Set name (written_of e)
written_line_of (line.Put name index e) = Put name (written_of index) (written_of e)
written_line_of (line.For name count) = For name count
written_line_of line.Done = Done
