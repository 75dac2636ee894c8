use Rattle.std.proofs.Common.{refl}
use Rattle.pyr_top.proofs.Calling.{call_unknown, call_spelled}
use Rattle.pyr_top.proofs.calls.answer.Goals as goal

pub returns-in-Some : goal.returns-in-Some
returns-in-Some g c = call_spelled _ _ _ _ _ _ c.in-Some.ensures.some c.answer_command.ensures

pub returns-in-None : goal.returns-in-None
returns-in-None g c = call_unknown _ _ _ _ _ c.in-None.ensures.none refl refl c.refuse.ensures
