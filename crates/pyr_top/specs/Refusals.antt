-- The status and the line of each refusal.
use Rattle.std.specs.Prelude.{◌≡◌, ◌⊎◌, ℕ, List, codes, ⊤}
use Rattle.pyr_port.specs.declared.reading.ReadFault.{ReadFault}
use Rattle.pyr_port.specs.declared.reading.ReadFault.TheVariants.{SourceFault, TooLong as TooLongSource, Memory as OutOfMemory}
use Rattle.pyr_graphtext.specs.declared.program_fault.ProgramFault.{ProgramFault}
use Rattle.pyr_graphtext.specs.declared.program_fault.ProgramFault.TheVariants as faults
use Rattle.pyr_loader.specs.declared.load_fault.LoadFault.{LoadFault}
use Rattle.pyr_loader.specs.declared.load_fault.LoadFault.TheVariants as loads
use Rattle.pyr_top.specs.declared.refusal.Refusal.{Refusal}
use Rattle.pyr_top.specs.declared.refusal.Refusal.TheVariants.{Usage, Source, Sink, Memory, TooLong, Program, Load}
use Rattle.pyr_top.specs.declared.status.Status as status
use Rattle.pyr_top.specs.declared.status.Status.TheVariants as statuses
use Rattle.pyr_top.specs.Messages.{fault_line}
use Rattle.pyr_top.specs.LoadMessages.{load_line}

-- the status that tells a fault of a graph text
abbrev pub fault_status : ProgramFault → status.Status
fault_status (faults.BadText line) = statuses.Text
fault_status (faults.Limit line which) = statuses.Limit
fault_status (faults.Names line kind name) = statuses.Names
fault_status faults.NoTask = statuses.Names
fault_status (faults.NoWriter name) = statuses.Names
fault_status (faults.Cycle names) = statuses.Cycle
fault_status faults.Memory = statuses.Memory

-- the status that tells a fault of a bundle text, of its bundle or of its runs
abbrev pub load_status : LoadFault → status.Status
load_status (loads.BadText line) = statuses.Text
load_status (loads.Limit line which) = statuses.Limit
load_status (loads.Law number a b) = statuses.Law
load_status (loads.Stuck stops) = statuses.Stuck
load_status (loads.Leftover from to d) = statuses.Leftover
load_status loads.Memory = statuses.Memory

-- the status that tells a refusal
abbrev pub status_of : Refusal → status.Status
status_of Usage = statuses.Usage
status_of Source = statuses.Source
status_of Sink = statuses.Sink
status_of Memory = statuses.Memory
status_of TooLong = statuses.Limit
status_of (Program fault) = fault_status fault
status_of (Load fault) = load_status fault

-- the line that tells it
abbrev pub line_of : Refusal → List ℕ
line_of Usage = codes "usage\n"
line_of Source = codes "source failed\n"
line_of Sink = codes "sink failed\n"
line_of Memory = codes "no memory\n"
line_of TooLong = codes "limit input\n"
line_of (Program fault) = fault_line fault
line_of (Load fault) = load_line fault

-- the line has to be made, which takes memory
abbrev pub IsMade : Refusal → Type 0
IsMade (Program fault) = ⊤
IsMade (Load fault) = ⊤
IsMade refusal = ⊥

-- what is told of a refusal: itself, or that there was no memory to make its line
abbrev pub IsToldAs : Refusal → Refusal → Type 0
IsToldAs (Program fault) told = (told ≡ Program fault) ⊎ (told ≡ Memory)
IsToldAs (Load fault) told = (told ≡ Load fault) ⊎ (told ≡ Memory)
IsToldAs refusal told = told ≡ refusal

-- the refusal of an input that is longer than the limit
abbrev pub too_long : Refusal
too_long = TooLong

-- the refusal where the input couldn't be read
abbrev pub refusal_of : ReadFault → Refusal
refusal_of SourceFault = Source
refusal_of TooLongSource = too_long
refusal_of OutOfMemory = Memory

-- the refusal of a graph text
abbrev pub refusal_by : ProgramFault → Refusal
refusal_by faults.Memory = Memory
refusal_by fault = Program fault

-- the refusal of a bundle text
abbrev pub refusal_to_load : LoadFault → Refusal
refusal_to_load loads.Memory = Memory
refusal_to_load fault = Load fault
