-- What the reader of a text comes to at the end of the text.
use Rattle.std.specs.Prelude.{◌≡◌, ℕ, ◌<◌, List, [], length, map, All, slice_index_or, Result, Ok, Err, ⊤}
use Rattle.pyr_num.specs.declared.ids.DatumId.{DatumId}
use Rattle.pyr_num.specs.declared.ids.TaskId.{TaskId}
use Rattle.pyr_num.specs.declared.name.Name.{Name}
use Rattle.pyr_body.specs.Parts.{BodyParts}
use Rattle.pyr_graph.specs.declared.parts.TaskParts.{TaskParts}
use Rattle.pyr_graph.specs.declared.parts.DatumParts.{DatumParts}
use Rattle.pyr_graphtext.specs.declared.program_names.ProgramNames.{ProgramNames}
use Rattle.pyr_graph.specs.declared.fault.GraphFault.{GraphFault}
use Rattle.pyr_graph.specs.declared.fault.GraphFault.TheVariants as graph_faults
use Rattle.pyr_graph.specs.System.{System, system_of}
use Rattle.pyr_graph.specs.Faults.{IsSound, IsFault}
use Rattle.pyr_graphtext.specs.declared.program_fault.ProgramFault.{ProgramFault}
use Rattle.pyr_graphtext.specs.declared.program_fault.ProgramFault.TheVariants.{NoTask, NoWriter, Cycle, Memory}
use Rattle.pyr_graphtext.specs.declared.stage.Stage.TheVariants.{Outside}
use Rattle.pyr_graphtext.specs.Line.{Line}
use Rattle.pyr_graphtext.specs.Earlier.{stage_of, datum_ids}
use Rattle.pyr_graphtext.specs.Faults.{AllPass}
use Rattle.pyr_graphtext.specs.FirstFault.{IsFine}
use Rattle.pyr_graphtext.specs.Program.{ProgramParts, program_of}
use Rattle.pyr_graphtext.specs.Answer.{IsFaultOf}
use Rattle.pyr_graphtext.specs.State.{State, Follows}

-- the state is what lines without fault say, and no task is open
pub record HasSaid (s : State) : Type 0 where
  pub said : List Line
  pub follows : Follows said s
  pub pass : AllPass said
  pub closed : stage_of said ≡ Outside

-- the task system that was read
abbrev pub system_in : State → System
system_in s = system_of s.tasks s.datums (datum_ids s.datum_names s.prints)

-- the name with a number, and the names of tasks
abbrev pub name_of : List Name → ℕ → Name
name_of names number = slice_index_or names number []

abbrev pub names_of : List Name → List TaskId → List Name
names_of names = map (λ t. name_of names t.0)

-- the task system with the prints of these names
abbrev pub system_named : ProgramNames → List TaskParts → List DatumParts → System
system_named names tasks datums = system_of tasks datums (datum_ids names.datums names.prints)

-- the first fault of the whole text, where its tasks are this system
abbrev pub Refuses : System → List Name → List Name → ProgramFault → Type 0
Refuses s datums tasks NoTask = IsFault s graph_faults.NoTask
Refuses s datums tasks (NoWriter name) =
    (d : DatumId) × IsFault s (graph_faults.NoWriter d) × (name ≡ name_of datums d.0)
Refuses s datums tasks (Cycle names) =
    (list : List TaskId) × IsFault s (graph_faults.Cycle list) × (names ≡ names_of tasks list)
Refuses s datums tasks Memory = ⊤
Refuses s datums tasks fault = ⊥

-- the program of this system, these names and these bodies, or the first fault of the whole text
abbrev pub Makes : System → List Name → List Name → List BodyParts
    → Result ProgramParts ProgramFault → Type 0
Makes s datums tasks bodies (Ok p) = IsSound s × (p ≡ program_of s datums tasks bodies)
Makes s datums tasks bodies (Err fault) = Refuses s datums tasks fault

-- the same of what a reader keeps
abbrev pub Finishes : State → Result ProgramParts ProgramFault → Type 0
Finishes s = Makes (system_in s) s.datum_names s.task_names s.bodies

-- the fault of a graph is one of a whole text, and the data and tasks that it names have names
abbrev pub CanBeTold : List Name → List Name → GraphFault → Type 0
CanBeTold datums tasks graph_faults.NoTask = ⊤
CanBeTold datums tasks (graph_faults.NoWriter d) = d.0 < length datums
CanBeTold datums tasks (graph_faults.Cycle list) = All (λ t. t.0 < length tasks) list
CanBeTold datums tasks graph_faults.Memory = ⊤
CanBeTold datums tasks fault = ⊥

-- that fault, with names in the place of numbers
abbrev pub IsTold : List Name → List Name → GraphFault → ProgramFault → Type 0
IsTold datums tasks graph_faults.NoTask told = told ≡ NoTask
IsTold datums tasks (graph_faults.NoWriter d) told = told ≡ NoWriter (name_of datums d.0)
IsTold datums tasks (graph_faults.Cycle list) told = told ≡ Cycle (names_of tasks list)
IsTold datums tasks graph_faults.Memory told = told ≡ Memory
IsTold datums tasks fault told = ⊥

-- The lines of a text were read to its end, or one of them is faulty so.
abbrev pub ReadsLines : List ℕ → Result State ProgramFault → Type 0
ReadsLines text (Ok s) =
    (said : List Line) × IsFine text said × Follows said s × AllPass said
ReadsLines text (Err fault) = IsFaultOf text fault
