-- What a test of a line answers.
use Rattle.std.specs.Prelude.{◌≡◌, Option, Some, None, Result, Ok, Err}
use Rattle.pyr_graphtext.specs.declared.line_fault.LineFault.{LineFault}
use Rattle.pyr_graphtext.specs.declared.line_fault.LineFault.TheVariants.{Memory}

-- The answer is this fault, or that there is none, unless memory ran out.
abbrev pub Tells : {X : Type 0} → Result X LineFault → Option LineFault → Type 0
Tells (Ok x) fault = fault ≡ None
Tells (Err Memory) fault = Unit {0}
Tells (Err e) fault = fault ≡ Some e
