-- What reading a text answers: the program that it stands for, or its first fault.
use Rattle.std.specs.Prelude.{◌≡◌, ◌≢◌, ℕ, List, ⊤}
use Rattle.pyr_num.specs.declared.ids.TaskId.{TaskId}
use Rattle.pyr_graph.specs.declared.fault.GraphFault.TheVariants as graph_faults
use Rattle.pyr_graph.specs.Faults.{IsSound, IsFault}
use Rattle.pyr_graphtext.specs.declared.line_fault.LineFault.TheVariants as faults
use Rattle.pyr_graphtext.specs.declared.program_fault.ProgramFault.{ProgramFault}
use Rattle.pyr_graphtext.specs.declared.program_fault.ProgramFault.TheVariants.{BadText, Limit, Names, NoTask, NoWriter, Cycle, Memory}
use Rattle.pyr_graphtext.specs.Line.{Line}
use Rattle.pyr_graphtext.specs.FirstFault.{IsFirstFault, IsFine}
use Rattle.pyr_graphtext.specs.Program.{ProgramParts}
use Rattle.pyr_graphtext.specs.Said.{system_said, datum_name_said, task_names_said, IsSaid}

-- The text stands for the program: no line is faulty, there is a task, a writer of each datum, and
-- no cycle.
pub record StandsFor (text : List ℕ) (p : ProgramParts) : Type 0 where
  pub said : List Line
  pub fine : IsFine text said
  pub sound : IsSound (system_said said)
  pub program : IsSaid said p

-- no task writes the datum of this name, the smallest such datum, and there is a task
pub record LacksWriter (text name : List ℕ) : Type 0 where
  pub said : List Line
  pub fine : IsFine text said
  pub datum : ℕ
  pub smallest : IsFault (system_said said) (graph_faults.NoWriter (record { 0 = datum }))
  pub named : name ≡ datum_name_said said datum

-- the edges have the cycle of tasks of these names, each datum has a writer, and there is a task
pub record HasCycle (text : List ℕ) (names : List (List ℕ)) : Type 0 where
  pub said : List Line
  pub fine : IsFine text said
  pub tasks : List TaskId
  pub cycle : IsFault (system_said said) (graph_faults.Cycle tasks)
  pub named : names ≡ task_names_said said tasks

-- there is no task
pub record HasNoTask (text : List ℕ) : Type 0 where
  pub said : List Line
  pub fine : IsFine text said
  pub none : IsFault (system_said said) graph_faults.NoTask

-- The fault is that of the first faulty line; where no line is faulty, it is the first fault of the
-- whole text. Want of memory may come at any point.
abbrev pub IsFaultOf : List ℕ → ProgramFault → Type 0
IsFaultOf text (BadText line) = IsFirstFault text line faults.Text
IsFaultOf text (Limit line which) = IsFirstFault text line (faults.Limit which)
IsFaultOf text (Names line kind name) = IsFirstFault text line (faults.Names kind name)
IsFaultOf text NoTask = HasNoTask text
IsFaultOf text (NoWriter name) = LacksWriter text name
IsFaultOf text (Cycle names) = HasCycle text names
IsFaultOf text Memory = ⊤

-- One text stands for one program at most, has one fault at most, and not both.
pub record OneAnswerIsTold : Type 0 where
  pub one_program : (text : List ℕ) (p q : ProgramParts)
      → StandsFor text p → StandsFor text q → p ≡ q
  pub one_fault : (text : List ℕ) (fault other : ProgramFault) → fault ≢ Memory → other ≢ Memory
      → IsFaultOf text fault → IsFaultOf text other → fault ≡ other
  pub not_both : (text : List ℕ) (p : ProgramParts) (fault : ProgramFault) → fault ≢ Memory
      → StandsFor text p → IsFaultOf text fault → ⊥
