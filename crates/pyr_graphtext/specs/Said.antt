-- The program that lines without fault stand for.
use Rattle.std.specs.Prelude.{◌≡◌, ℕ, List, [], map, slice_index_or}
use Rattle.std.specs.List.{AllZip}
use Rattle.pyr_num.specs.declared.ids.TaskId.{TaskId}
use Rattle.pyr_num.specs.declared.name.Name.{Name}
use Rattle.pyr_graph.specs.System.{System, system_of}
use Rattle.pyr_graphtext.specs.Line.{Line}
use Rattle.pyr_graphtext.specs.Statements.{IsBodyOf}
use Rattle.pyr_graphtext.specs.Earlier.{datum_names, datums, datum_ids, task_names, tasks, bodies, prints}
use Rattle.pyr_graphtext.specs.Program.{ProgramParts}

-- the task system of the lines
abbrev pub system_said : List Line → System
system_said said = system_of (tasks said) (datums said) (datum_ids (datum_names said) (prints said))

-- the name of a datum, and the names of tasks
abbrev pub datum_name_said : List Line → ℕ → Name
datum_name_said said d = slice_index_or (datum_names said) d []

abbrev pub task_names_said : List Line → List TaskId → List Name
task_names_said said = map (λ t. slice_index_or (task_names said) t.0 [])

-- the program has the graph, the names and the bodies of the lines
pub record IsSaid (said : List Line) (p : ProgramParts) : Type 0 where
  pub graph : p.graph ≡ system_said said
  pub datum_names : p.datum_names ≡ datum_names said
  pub task_names : p.task_names ≡ task_names said
  pub bodies : AllZip IsBodyOf (bodies said) p.bodies
