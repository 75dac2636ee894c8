-- What the reader of a text keeps of the lines that it took.
use Rattle.std.specs.Prelude.{◌≡◌, ℕ, ◌+◌, ◌≤◌, List, [], length, Option, Some, None, Result, Ok, Err, ⊤}
use Rattle.std.specs.List.{AllZip}
use Rattle.pyr_num.specs.declared.limits.TheConstants.Limits.{DATUMS, READS, ALL_READS, ALL_NODES, ALL_WORK}
use Rattle.pyr_num.specs.declared.name.Name.{Name}
use Rattle.pyr_body.specs.declared.line_fault.LineFault.{LineFault as BodyFault}
use Rattle.pyr_body.specs.Lines.{lines_nodes}
use Rattle.pyr_body.specs.Parts.{BodyParts}
use Rattle.pyr_body.specs.Taking.{LinesTaken, no_lines}
use Rattle.pyr_graph.specs.declared.parts.TaskParts.{TaskParts}
use Rattle.pyr_graph.specs.declared.parts.DatumParts.{DatumParts}
use Rattle.pyr_graphtext.specs.declared.open_task.OpenTask.{OpenTask}
use Rattle.pyr_graphtext.specs.declared.open_part.OpenPart.{OpenPart}
use Rattle.pyr_graphtext.specs.declared.open_part.OpenPart.TheVariants.{AfterTask, AfterReads, InBody}
use Rattle.pyr_graphtext.specs.declared.stage.Stage.{Stage}
use Rattle.pyr_graphtext.specs.declared.stage.Stage.TheVariants as stages
use Rattle.pyr_graphtext.specs.Line.{Line}
use Rattle.pyr_graphtext.specs.Statements.{IsBodyOf, nodes_of}
use Rattle.pyr_graphtext.specs.Stands.{Stands}
use Rattle.pyr_graphtext.specs.Earlier.{stage_of, datum_names, datums, task_names, last_cost, last_reads, last_writes, last_statements, datum_ids, tasks, bodies, written, prints, all_reads, all_nodes, all_work}

-- the stage of an open task
abbrev pub stage_of_part : OpenPart → Stage
stage_of_part AfterTask = stages.AfterTask
stage_of_part (AfterReads names) = stages.AfterReads
stage_of_part (InBody reader) = stages.InBody

-- the names of the data that the body reads, where its lines haven't come
abbrev pub reads_in : OpenPart → List Name
reads_in AfterTask = []
reads_in (AfterReads names) = names
reads_in (InBody reader) = []

-- the reader of the body's lines, where the bodies before it have so many nodes
abbrev pub reader_of : OpenPart → ℕ → Result LinesTaken BodyFault
reader_of AfterTask nodes = Ok (no_lines [] [] nodes)
reader_of (AfterReads names) nodes = Ok (no_lines names [] nodes)
reader_of (InBody reader) nodes = reader

-- what the reader of a text keeps
pub record State : Type 0 where
  pub datum_names : List Name
  pub datums : List DatumParts
  pub task_names : List Name
  pub tasks : List TaskParts
  pub bodies : List BodyParts
  pub open_task : Option OpenTask
  pub written : List Name
  pub prints : List Name
  pub all_reads : ℕ
  -- of the bodies of closed tasks
  pub nodes : ℕ
  pub work : ℕ

-- where the next line stands
abbrev pub stage_in : Option OpenTask → Stage
stage_in None = stages.Outside
stage_in (Some task) = stage_of_part task.part

-- the lines of an open body fit into what the bodies before it leave of the nodes
abbrev pub FitsBody : ℕ → Result LinesTaken BodyFault → Type 0
FitsBody nodes (Ok taken) =
    (taken.nodes_before ≡ nodes) × (nodes + lines_nodes taken.lines ≤ ALL_NODES)
FitsBody nodes (Err fault) = ⊤

abbrev pub FitsPart : ℕ → OpenPart → Type 0
FitsPart nodes AfterTask = ⊤
FitsPart nodes (AfterReads names) = length names ≤ READS
FitsPart nodes (InBody reader) = FitsBody nodes reader

abbrev pub FitsOpen : ℕ → Option OpenTask → Type 0
FitsOpen nodes None = ⊤
FitsOpen nodes (Some task) = FitsPart nodes task.part

-- every number is within its limit
pub record IsWithin (s : State) : Type 0 where
  pub datums : length s.datum_names ≤ DATUMS
  pub reads : s.all_reads ≤ ALL_READS
  pub nodes : s.nodes ≤ ALL_NODES
  pub work : s.work ≤ ALL_WORK
  pub open_task : FitsOpen s.nodes s.open_task

-- the open task is the one that the lines began last, and all bodies before it have so many nodes
abbrev pub FollowsPart : List Line → ℕ → OpenPart → Type 0
FollowsPart said nodes AfterTask =
    (last_reads said ≡ []) × (last_writes said ≡ []) × (last_statements said ≡ [])
    × (all_nodes said ≡ nodes)
FollowsPart said nodes (AfterReads names) =
    (last_reads said ≡ names) × (last_writes said ≡ []) × (last_statements said ≡ [])
    × (all_nodes said ≡ nodes)
FollowsPart said nodes (InBody (Err fault)) = ⊥
FollowsPart said nodes (InBody (Ok taken)) =
    Stands (last_reads said) (last_writes said) nodes (last_statements said) taken
    × (all_nodes said ≡ nodes + nodes_of (last_statements said))

pub record FollowsTask (said : List Line) (nodes : ℕ) (task : OpenTask) : Type 0 where
  pub stage : stage_of said ≡ stage_of_part task.part
  pub cost : last_cost said ≡ task.cost
  pub reads : datum_ids (datum_names said) (last_reads said) ≡ task.reads
  pub writes : datum_ids (datum_names said) (last_writes said) ≡ task.writes
  pub part : FollowsPart said nodes task.part

abbrev pub FollowsOpen : List Line → ℕ → Option OpenTask → Type 0
FollowsOpen said nodes None = (stage_of said ≡ stages.Outside) × (all_nodes said ≡ nodes)
FollowsOpen said nodes (Some task) = FollowsTask said nodes task

-- the state is what these lines say
pub record Follows (said : List Line) (s : State) : Type 0 where
  pub datum_names : datum_names said ≡ s.datum_names
  pub datums : datums said ≡ s.datums
  pub task_names : task_names said ≡ s.task_names
  pub tasks : tasks said ≡ s.tasks
  pub bodies : AllZip IsBodyOf (bodies said) s.bodies
  pub written : written said ≡ s.written
  pub prints : prints said ≡ s.prints
  pub all_reads : all_reads said ≡ s.all_reads
  pub work : all_work said ≡ s.work
  pub open_task : FollowsOpen said s.nodes s.open_task
