-- The lines that tell faults of graph texts.
use Rattle.std.specs.Prelude.{ℕ, List, ◌∷◌, ◌++◌, codes, decimal}
use Rattle.std.specs.List.{flat_map}
use Rattle.pyr_num.specs.declared.limits.Quantity.{Quantity}
use Rattle.pyr_num.specs.declared.limits.Quantity.TheVariants.{Input, Processors, Tasks, Datums, Length, Comm, Cost, Reads, AllReads, Writes, Depth, Nodes, AllNodes, Loops, Count, Locals, Work, AllWork, Prints, Channels, Instructions, Time, Delay}
use Rattle.pyr_num.specs.declared.name.Name.{Name}
use Rattle.pyr_graphtext.specs.declared.program_fault.NameKind.{NameKind}
use Rattle.pyr_graphtext.specs.declared.program_fault.NameKind.TheVariants.{Unknown, Duplicate, SecondWriter}
use Rattle.pyr_graphtext.specs.declared.program_fault.ProgramFault.{ProgramFault}
use Rattle.pyr_graphtext.specs.declared.program_fault.ProgramFault.TheVariants.{BadText, Limit, Names, NoTask, NoWriter, Cycle, Memory}

-- the name of each quantity
abbrev pub quantity_name : Quantity → List ℕ
quantity_name Input = codes "input"
quantity_name Processors = codes "processors"
quantity_name Tasks = codes "tasks"
quantity_name Datums = codes "data"
quantity_name Length = codes "length"
quantity_name Comm = codes "comm"
quantity_name Cost = codes "cost"
quantity_name Reads = codes "reads"
quantity_name AllReads = codes "all-reads"
quantity_name Writes = codes "writes"
quantity_name Depth = codes "depth"
quantity_name Nodes = codes "nodes"
quantity_name AllNodes = codes "all-nodes"
quantity_name Loops = codes "loops"
quantity_name Count = codes "count"
quantity_name Locals = codes "locals"
quantity_name Work = codes "work"
quantity_name AllWork = codes "all-work"
quantity_name Prints = codes "prints"
quantity_name Channels = codes "channels"
quantity_name Instructions = codes "instructions"
quantity_name Time = codes "time"
quantity_name Delay = codes "delay"

-- what stands before the name that may not stand where it stands
abbrev pub kind_words : NameKind → List ℕ
kind_words Unknown = codes "unknown name "
kind_words Duplicate = codes "duplicate name "
kind_words SecondWriter = codes "second writer of "

-- the lines that begin with the number of a line
abbrev pub text_line : ℕ → List ℕ
text_line line = codes "line " ++ decimal line ++ codes ": " ++ codes "text\n"

abbrev pub limit_line : ℕ → Quantity → List ℕ
limit_line line which =
    codes "line " ++ decimal line ++ codes ": " ++ codes "limit " ++ quantity_name which
    ++ codes "\n"

abbrev pub names_line : ℕ → NameKind → Name → List ℕ
names_line line kind name =
    codes "line " ++ decimal line ++ codes ": " ++ kind_words kind ++ name ++ codes "\n"

-- the names of the tasks of a cycle, in order
abbrev pub cycle_line : List Name → List ℕ
cycle_line names = codes "cycle" ++ flat_map (λ name. 32 ∷ name) names ++ codes "\n"

-- the line of a fault
abbrev pub fault_line : ProgramFault → List ℕ
fault_line (BadText line) = text_line line
fault_line (Limit line which) = limit_line line which
fault_line (Names line kind name) = names_line line kind name
fault_line NoTask = codes "no task\n"
fault_line (NoWriter name) = codes "no writer of " ++ name ++ codes "\n"
fault_line (Cycle names) = cycle_line names
fault_line Memory = codes "no memory\n"
