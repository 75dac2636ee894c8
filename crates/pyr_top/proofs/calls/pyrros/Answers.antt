use Rattle.std.proofs.Common.{refl, subst}
use Rattle.pyr_top.specs.declared.command.Command.TheVariants.{Run}
use Rattle.pyr_top.specs.Commands.{texts, Spells}
use Rattle.pyr_top.proofs.Calling.{call_unknown, call_spelled}
use Rattle.pyr_top.proofs.calls.pyrros.Goals as goal

pub returns-in-Some-Run : goal.returns-in-Some-Run
returns-in-Some-Run g c =
    call_spelled _ Run _ _ _ _ (subst (Spells (texts c.args.words.now)) c.in-Some-Run.field-0-is c.in-Some-Run.ensures.some) c.run_command.ensures

pub returns-in-Some : goal.returns-in-Some
returns-in-Some g c = call_spelled _ _ _ _ _ _ c.in-Some.ensures.some c.answer_command.ensures

pub returns-in-None : goal.returns-in-None
returns-in-None g c = call_unknown _ _ _ _ _ c.in-None.ensures.none refl refl c.refuse.ensures
