-- What a fault of a line of a body is, told as a fault of a line.
use Rattle.pyr_body.specs.declared.line_fault.LineFault.{LineFault as BodyFault}
use Rattle.pyr_body.specs.declared.line_fault.LineFault.TheVariants as body_faults
use Rattle.pyr_graphtext.specs.declared.line_fault.LineFault.{LineFault}
use Rattle.pyr_graphtext.specs.declared.line_fault.LineFault.TheVariants.{Text, Limit, Names, Memory}
use Rattle.pyr_graphtext.specs.declared.program_fault.NameKind.TheVariants.{Unknown}

abbrev pub told_by_body : BodyFault → LineFault
told_by_body body_faults.Text = Text
told_by_body (body_faults.Limit which) = Limit which
told_by_body (body_faults.Unknown name) = Names Unknown name
told_by_body body_faults.Memory = Memory
