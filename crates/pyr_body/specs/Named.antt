-- Expressions and lines with names in the place of numbers.
use Rattle.std.specs.Prelude.{ℕ, List, [], ◌++◌, slice_index_or}
use Rattle.pyr_num.specs.declared.name.Name.{Name}
use Rattle.pyr_body.specs.Tree.{Expr}
use Rattle.pyr_body.specs.Tree as tree
use Rattle.pyr_body.specs.Lines.{Line, SetLine, PutLine, ForLine, DoneLine}
use Rattle.pyr_body.specs.Written.{WrittenExpr, Num, Local, Frame, Get, Bin, Sel, WrittenLine, Set, Put, For, Done}

-- the name with a number
abbrev pub name_at : List Name → ℕ → Name
name_at names i = slice_index_or names i []

-- an expression with the names of locals and slots
abbrev pub with_names : List Name → List Name → Expr → WrittenExpr
with_names locals slots (tree.Num word) = Num word
with_names locals slots (tree.Local l) = Local (name_at locals l)
with_names locals slots tree.Frame = Frame
with_names locals slots (tree.Get slot index) =
    Get (name_at slots slot) (with_names locals slots index)
with_names locals slots (tree.Bin operator a b) =
    Bin operator (with_names locals slots a) (with_names locals slots b)
with_names locals slots (tree.Sel c a b) =
    Sel (with_names locals slots c) (with_names locals slots a) (with_names locals slots b)

-- a line with the names of locals, of the data that are read and of those that are written
module _ (locals reads writes : List Name) where
  abbrev pub line_with_names : Line → WrittenLine
  line_with_names (SetLine l e) = Set (name_at locals l) (with_names locals (reads ++ writes) e)
  line_with_names (PutLine output index e) =
      Put (name_at writes output) (with_names locals (reads ++ writes) index)
      (with_names locals (reads ++ writes) e)
  line_with_names (ForLine l count) = For (name_at locals l) count
  line_with_names DoneLine = Done
