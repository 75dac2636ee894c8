-- The part of taking a line that comes before the line is added: the limits, and numbers in the
-- place of names. Private contracts alone cite it.
use Rattle.std.specs.Prelude.{ℕ, ◌+◌, drop, Result, Ok}
use Rattle.pyr_num.specs.declared.name.Name.{Name}
use Rattle.pyr_body.specs.declared.line_fault.LineFault.{LineFault}
use Rattle.pyr_body.specs.Tree.{Expr, Stmt, Put}
use Rattle.pyr_body.specs.Written.{WrittenExpr, written_nodes}
use Rattle.pyr_body.specs.Names.{◌>>=◌, index_of, known, resolved}
use Rattle.pyr_body.specs.Lines.{lines_nodes, loops_open}
use Rattle.pyr_body.specs.Taking.{LinesTaken, nodes_fit, loop_fits, local_fits}

-- the value of a `set`
abbrev pub set_value : LinesTaken → Name → WrittenExpr → Result Expr LineFault
set_value taken name e = do
  a ← nodes_fit taken.nodes_before (lines_nodes taken.lines) (1 + written_nodes e)
  b ← local_fits taken.locals (index_of name taken.locals)
  resolved taken.locals taken.slots e

-- the statement that a `put` is
abbrev pub put_statement : LinesTaken → Name → WrittenExpr → WrittenExpr → Result Stmt LineFault
put_statement taken name index e = do
  a ← nodes_fit taken.nodes_before (lines_nodes taken.lines)
      (1 + written_nodes index + written_nodes e)
  output ← known name (drop taken.reads taken.slots)
  i ← resolved taken.locals taken.slots index
  x ← resolved taken.locals taken.slots e
  Ok (Put output i x)

-- room for a `for`
abbrev pub for_fits : LinesTaken → Name → ℕ → Result (Unit {0}) LineFault
for_fits taken name count = do
  a ← nodes_fit taken.nodes_before (lines_nodes taken.lines) 1
  b ← loop_fits (loops_open taken.lines) count
  local_fits taken.locals (index_of name taken.locals)
