-- The lines of a task's body, by what the earlier lines of the body say. The earlier lines stand
-- with the newest first.
use Rattle.std.specs.Prelude.{ℕ, ◌+◌, ◌*◌, ◌≡◌, Bool, ◌||◌, List, [], ◌∷◌, ◌++◌, drop, length, Option, Some, None, nat_lt, nat_le, bytes_eq, if◌then◌else◌}
use Rattle.std.specs.List.{list_any, position_or_len}
use Rattle.std.specs.Option.{option_or}
use Rattle.pyr_num.specs.declared.limits.Quantity.TheVariants as quantities
use Rattle.pyr_num.specs.declared.limits.TheConstants.Limits.{NODES, ALL_NODES, LOOPS, COUNT, LOCALS}
use Rattle.pyr_num.specs.declared.name.Name.{Name}
use Rattle.pyr_body.specs.Tree.{Expr}
use Rattle.pyr_body.specs.Tree as tree
use Rattle.pyr_body.specs.Lines.{Line, SetLine, PutLine, ForLine, DoneLine, lines_of}
use Rattle.pyr_body.specs.Parts.{BodyParts}
use Rattle.pyr_body.specs.Written.{WrittenExpr, Num, Local, Frame, Get, Bin, Sel, WrittenLine, Set, Put, For, Done, written_nodes, written_line_nodes}
use Rattle.pyr_graphtext.specs.declared.line_fault.LineFault.{LineFault}
use Rattle.pyr_graphtext.specs.declared.line_fault.LineFault.TheVariants.{Text, Limit, Names}
use Rattle.pyr_graphtext.specs.declared.program_fault.NameKind.TheVariants.{Unknown}

-- this fault where the test fails, else what the others say
abbrev pub unless : Bool → LineFault → Option LineFault → Option LineFault
unless test fault others = if test then others else Some fault

-- the name is one of these
abbrev pub is_among : List Name → Name → Bool
is_among names name = list_any (bytes_eq name) names

-- the place of the name among these, and their number where it isn't one of them
abbrev pub place_of : List Name → Name → ℕ
place_of names name = position_or_len (bytes_eq name) names

-- these names and this one behind them, unless it is among them
abbrev pub with_name : List Name → Name → List Name
with_name names name = if is_among names name then names else names ++ name ∷ []

-- the locals, in the order of their first `set` or `for`
abbrev pub locals_of : List WrittenLine → List Name
locals_of [] = []
locals_of (Set name e ∷ older) = with_name (locals_of older) name
locals_of (For name count ∷ older) = with_name (locals_of older) name
locals_of (_ ∷ older) = locals_of older

-- the counts of the loops that are open, innermost first
abbrev pub open_counts : List WrittenLine → List ℕ
open_counts [] = []
open_counts (For name count ∷ older) = count ∷ open_counts older
open_counts (Done ∷ older) = drop 1 (open_counts older)
open_counts (_ ∷ older) = open_counts older

-- the nodes of the lines
abbrev pub nodes_of : List WrittenLine → ℕ
nodes_of [] = 0
nodes_of (line ∷ older) = nodes_of older + written_line_nodes line

-- how often a line runs that stands within loops of these counts
abbrev pub product : List ℕ → ℕ
product [] = 1
product (count ∷ outer) = count * product outer

-- the operations of a line each time it runs; a `for` makes one, and one for each turn
abbrev pub line_work : WrittenLine → ℕ
line_work (Set name e) = 1 + written_nodes e
line_work (Put name index e) = 1 + written_nodes index + written_nodes e
line_work (For name count) = 1 + count
line_work Done = 0

-- the operations of one run of the lines: each line runs as often as the loops around it turn
abbrev pub work_of : List WrittenLine → ℕ
work_of [] = 0
work_of (line ∷ older) = work_of older + product (open_counts older) * line_work line

-- the first name of an expression, from the left, that stands for nothing
abbrev pub expr_fault : List Name → List Name → WrittenExpr → Option LineFault
expr_fault locals slots (Num word) = None
expr_fault locals slots (Local name) = unless (is_among locals name) (Names Unknown name) None
expr_fault locals slots Frame = None
expr_fault locals slots (Get name index) =
    unless (is_among slots name) (Names Unknown name) (expr_fault locals slots index)
expr_fault locals slots (Bin operator a b) =
    option_or (expr_fault locals slots a) (expr_fault locals slots b)
expr_fault locals slots (Sel c a b) =
    option_or (expr_fault locals slots c)
    (option_or (expr_fault locals slots a) (expr_fault locals slots b))

-- room for the nodes of one line more, where the body has so many and all bodies together so many
abbrev pub unless_nodes_fit : ℕ → ℕ → ℕ → Option LineFault → Option LineFault
unless_nodes_fit nodes all_nodes added others =
    unless (nat_le (nodes + added) NODES) (Limit quantities.Nodes) (
    unless (nat_le (all_nodes + added) ALL_NODES) (Limit quantities.AllNodes) others)

-- room for a local more, unless it is one already
abbrev pub unless_local_fits : List Name → Name → Option LineFault → Option LineFault
unless_local_fits locals name others =
    unless (is_among locals name || nat_lt (length locals) LOCALS) (Limit quantities.Locals) others

-- What is wrong with a line of the body of a task that reads and writes these data, behind these
-- lines of it, where all bodies together have so many nodes.
unfoldable pub statement_fault : List Name → List Name → ℕ → List WrittenLine → WrittenLine
    → Option LineFault
statement_fault reads writes all_nodes older (Set name e) =
    unless_nodes_fit (nodes_of older) all_nodes (1 + written_nodes e) (
    unless_local_fits (locals_of older) name (
    expr_fault (locals_of older) (reads ++ writes) e))
statement_fault reads writes all_nodes older (Put name index e) =
    unless_nodes_fit (nodes_of older) all_nodes (1 + written_nodes index + written_nodes e) (
    unless (is_among writes name) (Names Unknown name) (
    option_or (expr_fault (locals_of older) (reads ++ writes) index)
    (expr_fault (locals_of older) (reads ++ writes) e)))
statement_fault reads writes all_nodes older (For name count) =
    unless_nodes_fit (nodes_of older) all_nodes 1 (
    unless (nat_lt (length (open_counts older)) LOOPS) (Limit quantities.Loops) (
    unless (nat_le count COUNT) (Limit quantities.Count) (
    unless_local_fits (locals_of older) name None)))
statement_fault reads writes all_nodes older Done =
    unless (nat_lt 0 (length (open_counts older))) Text None

-- an expression with the places of its names in their stead
abbrev pub numbered : List Name → List Name → WrittenExpr → Expr
numbered locals slots (Num word) = tree.Num word
numbered locals slots (Local name) = tree.Local (place_of locals name)
numbered locals slots Frame = tree.Frame
numbered locals slots (Get name index) =
    tree.Get (place_of slots name) (numbered locals slots index)
numbered locals slots (Bin operator a b) =
    tree.Bin operator (numbered locals slots a) (numbered locals slots b)
numbered locals slots (Sel c a b) =
    tree.Sel (numbered locals slots c) (numbered locals slots a) (numbered locals slots b)

-- a line with numbers in the place of names, behind these lines of the body
module _ (reads writes : List Name) where
  abbrev pub numbered_line : List WrittenLine → WrittenLine → Line
  numbered_line older (Set name e) =
      SetLine (place_of (locals_of older) name) (numbered (locals_of older) (reads ++ writes) e)
  numbered_line older (Put name index e) =
      PutLine (place_of writes name) (numbered (locals_of older) (reads ++ writes) index)
      (numbered (locals_of older) (reads ++ writes) e)
  numbered_line older (For name count) = ForLine (place_of (locals_of older) name) count
  numbered_line older Done = DoneLine

  -- the lines of the body with numbers in the place of names, the oldest first
  abbrev pub numbered_lines : List WrittenLine → List Line
  numbered_lines [] = []
  numbered_lines (line ∷ older) = numbered_lines older ++ numbered_line older line ∷ []

-- a body as it is written: the names of the data that are read and written, and its lines, the
-- newest first
pub record WrittenBody : Type 0 where
  pub reads : List Name
  pub writes : List Name
  pub lines : List WrittenLine

-- the body that is written so
pub record IsBodyOf (written : WrittenBody) (body : BodyParts) : Type 0 where
  pub reads : body.reads ≡ length written.reads
  pub writes : body.writes ≡ length written.writes
  pub locals : body.locals ≡ locals_of written.lines
  pub lines : lines_of body.statements ≡ numbered_lines written.reads written.writes written.lines
