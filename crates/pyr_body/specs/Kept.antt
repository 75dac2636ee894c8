-- What a reading keeps of the lines that it took.
use Rattle.std.specs.Prelude.{◌≡◌, ℕ, ◌≤◌, ◌<◌, ◌^◌, ◌-◌, List, [], ◌∷◌, ◌++◌, length}
use Rattle.pyr_num.specs.declared.limits.TheConstants.Limits.{DEPTH, NODES, ALL_NODES, LOOPS, COUNT, LOCALS}
use Rattle.pyr_num.specs.declared.name.Name.{Name}
use Rattle.pyr_body.specs.declared.stmt.Stmt.{Stmt as StmtValue}
use Rattle.pyr_body.specs.declared.open_loop.OpenLoop.{OpenLoop}
use Rattle.pyr_body.specs.Seen.{statements_of}
use Rattle.pyr_body.specs.Lines.{Line, ForLine, lines_of, lines_nodes, lines_depth, lines_count, loops_open, loops_from, all_numbered_after, AreInOrder}
use Rattle.pyr_body.specs.Body.{AreDistinct}
use Rattle.pyr_body.specs.Taking.{LinesTaken}

-- the lines before the statements of the innermost open loop
abbrev pub outer_lines : List OpenLoop → List Line
outer_lines [] = []
outer_lines (o ∷ rest) =
    lines_of (statements_of o.before) ++ (ForLine o.local o.count ∷ outer_lines rest)

-- the lines of open loops, and of the statements of the innermost one
abbrev pub lines_in : List OpenLoop → List StmtValue → List Line
lines_in outer current = outer_lines outer ++ lines_of (statements_of current)

-- what the lines of a reading come to
abbrev pub taken_by : ℕ → List Name → ℕ → List Name → List OpenLoop → List StmtValue → LinesTaken
taken_by reads slots nodes_before locals outer current = record {
  reads = reads;
  slots = slots;
  nodes_before = nodes_before;
  locals = locals;
  lines = lines_in outer current;
}

-- what lines come to, where so many loops are open and these nodes were counted
pub record IsKept (taken : LinesTaken) (loops nodes : ℕ) : Type 0 where
  pub nodes_counted : nodes ≡ lines_nodes taken.lines
  pub few_nodes : nodes ≤ NODES
  pub loops_counted : loops ≡ loops_open taken.lines
  pub few_loops : loops ≤ LOOPS
  pub loops_nested : loops_from taken.lines 0 ≤ LOOPS
  pub small_counts : lines_count taken.lines ≤ COUNT
  pub shallow : lines_depth taken.lines ≤ DEPTH
  pub few_locals : length taken.locals ≤ LOCALS
  pub distinct_locals : AreDistinct taken.locals
  pub slots_split : taken.reads ≤ length taken.slots
  pub few_slots : length taken.slots < 2 ^ 32
  pub few_before : taken.nodes_before ≤ ALL_NODES
  pub order : AreInOrder taken.reads (length taken.slots - taken.reads) taken.lines 0
  pub numbered : all_numbered_after taken.lines 0 ≡ length taken.locals
