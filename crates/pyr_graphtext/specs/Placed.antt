-- The fault of a line, told with the number of the line.
use Rattle.std.specs.Prelude.{ℕ}
use Rattle.pyr_graphtext.specs.declared.line_fault.LineFault.{LineFault}
use Rattle.pyr_graphtext.specs.declared.line_fault.LineFault.TheVariants as faults
use Rattle.pyr_graphtext.specs.declared.program_fault.ProgramFault.{ProgramFault}
use Rattle.pyr_graphtext.specs.declared.program_fault.ProgramFault.TheVariants.{BadText, Limit, Names, Memory}

abbrev pub placed : ℕ → LineFault → ProgramFault
placed line faults.Text = BadText line
placed line (faults.Limit which) = Limit line which
placed line (faults.Names kind name) = Names line kind name
placed line faults.Memory = Memory
