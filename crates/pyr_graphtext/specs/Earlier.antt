-- What the earlier lines of a text say. They stand with the newest first.
use Rattle.std.specs.Prelude.{ℕ, ◌+◌, List, [], ◌∷◌, ◌++◌, length, map}
use Rattle.pyr_num.specs.declared.ids.DatumId.{DatumId}
use Rattle.pyr_num.specs.declared.name.Name.{Name}
use Rattle.pyr_body.specs.Written.{WrittenLine, written_line_nodes}
use Rattle.pyr_graph.specs.declared.parts.TaskParts.{TaskParts}
use Rattle.pyr_graph.specs.declared.parts.DatumParts.{DatumParts}
use Rattle.pyr_graphtext.specs.declared.form.Form.TheVariants.{Data, Task, Reads, Writes, End, Print}
use Rattle.pyr_graphtext.specs.declared.stage.Stage.{Stage}
use Rattle.pyr_graphtext.specs.declared.stage.Stage.TheVariants.{Outside, AfterTask, AfterReads, InBody}
use Rattle.pyr_graphtext.specs.Line.{Line, Plain, Statement}
use Rattle.pyr_graphtext.specs.Statements.{WrittenBody, place_of, work_of}

-- outside a task, or where within one
abbrev pub stage_of : List Line → Stage
stage_of [] = Outside
stage_of (Plain (Task name cost) ∷ older) = AfterTask
stage_of (Plain (Reads names) ∷ older) = AfterReads
stage_of (Plain (Writes names) ∷ older) = InBody
stage_of (Plain End ∷ older) = Outside
stage_of (Statement line ∷ older) = InBody
stage_of (_ ∷ older) = stage_of older

-- the names of the data, and the data, in the order of their lines
abbrev pub datum_names : List Line → List Name
datum_names [] = []
datum_names (Plain (Data name words comm) ∷ older) = datum_names older ++ name ∷ []
datum_names (_ ∷ older) = datum_names older

abbrev pub datums : List Line → List DatumParts
datums [] = []
datums (Plain (Data name words comm) ∷ older) =
    datums older ++ record { length = words; comm = comm } ∷ []
datums (_ ∷ older) = datums older

-- the names of the tasks, in the order of their lines
abbrev pub task_names : List Line → List Name
task_names [] = []
task_names (Plain (Task name cost) ∷ older) = task_names older ++ name ∷ []
task_names (_ ∷ older) = task_names older

-- of the task that was begun last: its cost, the data that it reads and writes, the lines of its
-- body, the newest first
abbrev pub last_cost : List Line → ℕ
last_cost [] = 0
last_cost (Plain (Task name cost) ∷ older) = cost
last_cost (_ ∷ older) = last_cost older

abbrev pub last_reads : List Line → List Name
last_reads [] = []
last_reads (Plain (Task name cost) ∷ older) = []
last_reads (Plain (Reads names) ∷ older) = names
last_reads (_ ∷ older) = last_reads older

abbrev pub last_writes : List Line → List Name
last_writes [] = []
last_writes (Plain (Task name cost) ∷ older) = []
last_writes (Plain (Writes names) ∷ older) = names
last_writes (_ ∷ older) = last_writes older

abbrev pub last_statements : List Line → List WrittenLine
last_statements [] = []
last_statements (Plain (Task name cost) ∷ older) = []
last_statements (Statement line ∷ older) = line ∷ last_statements older
last_statements (_ ∷ older) = last_statements older

-- the number of the datum of this name
abbrev pub datum_id : List Name → Name → DatumId
datum_id names name = record { 0 = place_of names name }

abbrev pub datum_ids : List Name → List Name → List DatumId
datum_ids names = map (datum_id names)

-- that task, as a part of a graph, and its body
abbrev pub last_task : List Line → TaskParts
last_task older = record {
  cost = last_cost older;
  reads = datum_ids (datum_names older) (last_reads older);
  writes = datum_ids (datum_names older) (last_writes older);
}

abbrev pub last_body : List Line → WrittenBody
last_body older = record {
  reads = last_reads older;
  writes = last_writes older;
  lines = last_statements older;
}

-- the tasks that are closed, and their bodies, in order
abbrev pub tasks : List Line → List TaskParts
tasks [] = []
tasks (Plain End ∷ older) = tasks older ++ last_task older ∷ []
tasks (_ ∷ older) = tasks older

abbrev pub bodies : List Line → List WrittenBody
bodies [] = []
bodies (Plain End ∷ older) = bodies older ++ last_body older ∷ []
bodies (_ ∷ older) = bodies older

-- the names of the data that tasks write
abbrev pub written : List Line → List Name
written [] = []
written (Plain (Writes names) ∷ older) = written older ++ names
written (_ ∷ older) = written older

-- the names of the data that are printed, in order
abbrev pub prints : List Line → List Name
prints [] = []
prints (Plain (Print name) ∷ older) = prints older ++ name ∷ []
prints (_ ∷ older) = prints older

-- the reads of all tasks together
abbrev pub all_reads : List Line → ℕ
all_reads [] = 0
all_reads (Plain (Reads names) ∷ older) = all_reads older + length names
all_reads (_ ∷ older) = all_reads older

-- the nodes of all bodies together
abbrev pub all_nodes : List Line → ℕ
all_nodes [] = 0
all_nodes (Statement line ∷ older) = all_nodes older + written_line_nodes line
all_nodes (_ ∷ older) = all_nodes older

-- the work of the bodies of all closed tasks together
abbrev pub all_work : List Line → ℕ
all_work [] = 0
all_work (Plain End ∷ older) = all_work older + work_of (last_statements older)
all_work (_ ∷ older) = all_work older
