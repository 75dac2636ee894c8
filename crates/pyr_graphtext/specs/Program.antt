-- A program: a task graph with names, and a body for each task.
use Rattle.std.specs.Prelude.{◌≡◌, ℕ, ◌<◌, ◌≤◌, List, [], length, map, replicate, sum_by, slice_index_or}
use Rattle.pyr_num.specs.declared.limits.TheConstants.Limits.{ALL_NODES, ALL_WORK}
use Rattle.pyr_num.specs.declared.name.Name.{Name}
use Rattle.pyr_seq.specs.Sequential.{Tasks}
use Rattle.pyr_body.specs.Tree.{End}
use Rattle.pyr_body.specs.Parts.{BodyParts}
use Rattle.pyr_body.specs.Body.{AreDistinct}
use Rattle.pyr_body.specs.Size.{statements_nodes, statements_work}
use Rattle.pyr_body.specs.Meaning.{body_meaning}
use Rattle.pyr_graph.specs.System.{System, task_count, datum_count, reads_of, writes_of, length_of}

-- the parts of a program: the names of data and of tasks stand by number, and so do the bodies
pub record ProgramParts : Type 0 where
  pub graph : System
  pub datum_names : List Name
  pub task_names : List Name
  pub bodies : List BodyParts

abbrev pub program_of : System → List Name → List Name → List BodyParts → ProgramParts
program_of graph datum_names task_names bodies = record {
  graph = graph;
  datum_names = datum_names;
  task_names = task_names;
  bodies = bodies;
}

-- the name of a datum, of a task, and the body of a task
abbrev pub datum_name : ProgramParts → ℕ → Name
datum_name p d = slice_index_or p.datum_names d []

abbrev pub task_name : ProgramParts → ℕ → Name
task_name p t = slice_index_or p.task_names t []

abbrev pub body_at : ProgramParts → ℕ → BodyParts
body_at p t =
    slice_index_or p.bodies t (record { statements = End; locals = []; reads = 0; writes = 0 })

-- what the type of programs keeps, beside the graph
pub record IsProgram (p : ProgramParts) : Type 0 where
  -- a name for each datum and each task, and a body for each task
  pub datum_names : length p.datum_names ≡ datum_count p.graph
  pub task_names : length p.task_names ≡ task_count p.graph
  pub bodies : length p.bodies ≡ task_count p.graph
  -- the names of data differ, and so do the names of tasks
  pub datums_differ : AreDistinct p.datum_names
  pub tasks_differ : AreDistinct p.task_names
  -- a body has the slots of its task
  pub reads : (t : ℕ) → t < task_count p.graph
      → (body_at p t).reads ≡ length (reads_of p.graph t)
  pub writes : (t : ℕ) → t < task_count p.graph
      → (body_at p t).writes ≡ length (writes_of p.graph t)
  -- the limits on all bodies together
  pub nodes : sum_by (λ b. statements_nodes b.statements) p.bodies ≤ ALL_NODES
  pub work : sum_by (λ b. statements_work b.statements) p.bodies ≤ ALL_WORK

-- a list of zeros for each datum that the task writes, of its length
abbrev pub blank_outputs : ProgramParts → ℕ → List (List ℕ)
blank_outputs p t = map (λ d. replicate (length_of p.graph d) 0) (writes_of p.graph t)

-- the tasks of a program in a frame: what each makes of its inputs is what its body means
abbrev pub tasks_of : ProgramParts → ℕ → Tasks
tasks_of p frame = record {
  count = task_count p.graph;
  reads = reads_of p.graph;
  writes = writes_of p.graph;
  outputs = λ t inputs. body_meaning (body_at p t) frame inputs (blank_outputs p t);
}
