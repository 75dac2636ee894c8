-- The test of one name of a list; private contracts alone cite it.
use Rattle.std.specs.Prelude.{Bool, not, List, Option, None}
use Rattle.pyr_num.specs.declared.name.Name.{Name}
use Rattle.pyr_graphtext.specs.declared.line_fault.LineFault.{LineFault}
use Rattle.pyr_graphtext.specs.declared.line_fault.LineFault.TheVariants.{Names}
use Rattle.pyr_graphtext.specs.declared.program_fault.NameKind.TheVariants.{Unknown, Duplicate, SecondWriter}
use Rattle.pyr_graphtext.specs.Statements.{unless, is_among}

abbrev pub name_fault : List Name → List Name → Bool → Name → Option LineFault
name_fault datums others stands_later name =
    unless (is_among datums name) (Names Unknown name) (
    unless (not stands_later) (Names Duplicate name) (
    unless (not (is_among others name)) (Names SecondWriter name) None))
