use Rattle.std.proofs.Common.{refl}
use Rattle.pyr_top.proofs.Calling.{call_delivered}
use Rattle.pyr_top.proofs.calls.answer_command.Goals as goal

pub returns : goal.returns
returns g c =
    call_delivered _ _ _ _ _ (record { text = refl; range = c.requires.range }) c.output_for-given.result _ c.output_for-given.ensures.output c.output_for-given.ensures.source c.deliver.ensures
