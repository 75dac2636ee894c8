-- What a line does to the lines taken before it, or why it is refused: the limits in their order,
-- and then the names from left to right.
use Rattle.std.specs.Prelude.{ℕ, ◌+◌, List, [], ◌∷◌, ◌++◌, length, drop, Bool, Option, Some, None, Result, Ok, Err, ◌==◌, nat_lt, nat_le, if◌then◌else◌}
use Rattle.pyr_num.specs.declared.limits.Quantity.{Quantity}
use Rattle.pyr_num.specs.declared.limits.Quantity.TheVariants as quantities
use Rattle.pyr_num.specs.declared.limits.TheConstants.Limits.{NODES, ALL_NODES, LOOPS, COUNT, LOCALS}
use Rattle.pyr_num.specs.declared.name.Name.{Name}
use Rattle.pyr_body.specs.declared.line_fault.LineFault.{LineFault}
use Rattle.pyr_body.specs.declared.line_fault.LineFault.TheVariants.{Text, Limit}
use Rattle.pyr_body.specs.Written.{WrittenExpr, written_nodes, WrittenLine, Set, Put, For, Done}
use Rattle.pyr_body.specs.Names.{◌>>=◌, index_of, known, resolved}
use Rattle.pyr_body.specs.Lines.{Line, SetLine, PutLine, ForLine, DoneLine, lines_nodes, loops_open}

-- What lines come to: the names of the slots, of which so many are read, the nodes of the bodies
-- before, the names of the locals by number, and the lines with numbers in the place of names.
pub record LinesTaken : Type 0 where
  pub reads : ℕ
  pub slots : List Name
  pub nodes_before : ℕ
  pub locals : List Name
  pub lines : List Line

-- no line yet, where data of these names are read and written
abbrev pub no_lines : List Name → List Name → ℕ → LinesTaken
no_lines reads writes nodes_before = record {
  reads = length reads;
  slots = reads ++ writes;
  nodes_before = nodes_before;
  locals = [];
  lines = [];
}

-- a refusal where the test is true
abbrev pub refuse : Bool → LineFault → Result (Unit {0}) LineFault
refuse test fault = if test then Err fault else Ok tt

abbrev pub limit : Quantity → LineFault
limit which = Limit which

-- room for so many nodes more
abbrev pub nodes_fit : ℕ → ℕ → ℕ → Result (Unit {0}) LineFault
nodes_fit nodes_before nodes added =
    if nat_lt NODES (nodes + added) then Err (limit quantities.Nodes)
    else refuse (nat_lt ALL_NODES (nodes_before + nodes + added)) (limit quantities.AllNodes)

-- room for a loop more, and for its count
abbrev pub loop_fits : ℕ → ℕ → Result (Unit {0}) LineFault
loop_fits loops count =
    if nat_le LOOPS loops then Err (limit quantities.Loops)
    else refuse (nat_lt COUNT count) (limit quantities.Count)

-- room for a local, which takes none where it has its number already
abbrev pub local_fits : List Name → Option ℕ → Result (Unit {0}) LineFault
local_fits locals (Some l) = Ok tt
local_fits locals None = refuse (nat_le LOCALS (length locals)) (limit quantities.Locals)

-- a local's number, and the names with it: a new one gets the next number
abbrev pub numbered : Name → List Name → Option ℕ → ℕ × List Name
numbered name locals (Some l) = (l, locals)
numbered name locals None = (length locals, locals ++ name ∷ [])

-- one line more
abbrev pub with_line : LinesTaken → List Name → Line → LinesTaken
with_line taken locals line = record taken { locals = locals; lines = taken.lines ++ line ∷ [] }

-- one line more that sets a local
abbrev pub with_numbered : LinesTaken → Name → (ℕ → Line) → LinesTaken
with_numbered taken name line =
    let number = numbered name taken.locals (index_of name taken.locals) in
    with_line taken number.1 (line number.0)

abbrev pub after_set : LinesTaken → Name → WrittenExpr → Result LinesTaken LineFault
after_set taken name e = do
  a ← nodes_fit taken.nodes_before (lines_nodes taken.lines) (1 + written_nodes e)
  b ← local_fits taken.locals (index_of name taken.locals)
  x ← resolved taken.locals taken.slots e
  Ok (with_numbered taken name (λ l. SetLine l x))

abbrev pub after_put : LinesTaken → Name → WrittenExpr → WrittenExpr → Result LinesTaken LineFault
after_put taken name index e = do
  a ← nodes_fit taken.nodes_before (lines_nodes taken.lines)
      (1 + written_nodes index + written_nodes e)
  output ← known name (drop taken.reads taken.slots)
  i ← resolved taken.locals taken.slots index
  x ← resolved taken.locals taken.slots e
  Ok (with_line taken taken.locals (PutLine output i x))

abbrev pub after_for : LinesTaken → Name → ℕ → Result LinesTaken LineFault
after_for taken name count = do
  a ← nodes_fit taken.nodes_before (lines_nodes taken.lines) 1
  b ← loop_fits (loops_open taken.lines) count
  c ← local_fits taken.locals (index_of name taken.locals)
  Ok (with_numbered taken name (λ l. ForLine l count))

-- a `done` without an open loop is no line
abbrev pub after_done : LinesTaken → Result LinesTaken LineFault
after_done taken =
    if loops_open taken.lines == 0 then Err Text else Ok (with_line taken taken.locals DoneLine)

-- the lines with this one, or its refusal
abbrev pub after_line : LinesTaken → WrittenLine → Result LinesTaken LineFault
after_line taken (Set name e) = after_set taken name e
after_line taken (Put name index e) = after_put taken name index e
after_line taken (For name count) = after_for taken name count
after_line taken Done = after_done taken
