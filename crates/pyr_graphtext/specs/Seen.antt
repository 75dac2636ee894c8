-- The state of the reader of a text, of its parts.
use Rattle.std.specs.Prelude.{ℕ, List, [], Option, None}
use Rattle.pyr_num.specs.declared.name.Name.{Name}
use Rattle.pyr_body.specs.Parts.{BodyParts}
use Rattle.pyr_graph.specs.declared.parts.TaskParts.{TaskParts}
use Rattle.pyr_graph.specs.declared.parts.DatumParts.{DatumParts}
use Rattle.pyr_graphtext.specs.declared.open_task.OpenTask.{OpenTask}
use Rattle.pyr_graphtext.specs.State.{State}

abbrev pub state_of : List Name → List DatumParts → List Name → List TaskParts → List BodyParts
    → Option OpenTask → List Name → List Name → ℕ → ℕ → ℕ → State
state_of datum_names datums task_names tasks bodies open_task written prints all_reads nodes work =
    record {
      datum_names = datum_names;
      datums = datums;
      task_names = task_names;
      tasks = tasks;
      bodies = bodies;
      open_task = open_task;
      written = written;
      prints = prints;
      all_reads = all_reads;
      nodes = nodes;
      work = work;
    }

-- no line yet
abbrev pub no_lines : State
no_lines = state_of [] [] [] [] [] None [] [] 0 0 0
