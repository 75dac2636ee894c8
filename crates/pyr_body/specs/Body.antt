-- What a body is.
use Rattle.std.specs.Prelude.{◌≡◌, ◌≢◌, ℕ, ◌≤◌, List, length, AllPairs}
use Rattle.pyr_num.specs.declared.limits.TheConstants.Limits.{DEPTH, NODES, LOOPS, COUNT, LOCALS, WORK}
use Rattle.pyr_num.specs.declared.name.Name.{Name}
use Rattle.pyr_body.specs.declared.stmt.Stmt.{Stmt as StmtValue}
use Rattle.pyr_body.specs.Seen.{statements_of}
use Rattle.pyr_body.specs.Size.{statements_depth, statements_nodes, statements_loops, statements_count, statements_work}
use Rattle.pyr_body.specs.Lines.{lines_of, all_numbered_after, AreInOrder}
use Rattle.pyr_body.specs.Parts.{BodyParts}

-- all of them differ
abbrev pub AreDistinct : List Name → Type 0
AreDistinct names = AllPairs (λ a b. a ≢ b) names

-- the parts with these statements and these names of the locals
abbrev pub body_of : List StmtValue → List Name → ℕ → ℕ → BodyParts
body_of statements locals reads writes = record {
  statements = statements_of statements;
  locals = locals;
  reads = reads;
  writes = writes;
}

-- what the type of bodies keeps
pub record IsBody (body : BodyParts) : Type 0 where
  -- slots and locals exist, and a local is read behind the line that gives it its number
  pub order : AreInOrder body.reads body.writes (lines_of body.statements) 0
  -- each local has a number by some line
  pub numbered : all_numbered_after (lines_of body.statements) 0 ≡ length body.locals
  pub names : AreDistinct body.locals
  -- the limits
  pub depth : statements_depth body.statements ≤ DEPTH
  pub nodes : statements_nodes body.statements ≤ NODES
  pub loops : statements_loops body.statements ≤ LOOPS
  pub count : statements_count body.statements ≤ COUNT
  pub locals : length body.locals ≤ LOCALS
  pub work : statements_work body.statements ≤ WORK
