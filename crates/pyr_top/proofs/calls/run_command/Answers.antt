use Rattle.std.proofs.Common.{refl}
use Rattle.pyr_top.proofs.Calling.{call_delivered}
use Rattle.pyr_top.proofs.calls.run_command.Goals as goal

pub returns : goal.returns
returns g c =
    call_delivered _ _ _ _ _ (record { text = refl; range = tt }) c.output_of_run-given.result _ c.output_of_run-given.ensures.output c.output_of_run-given.ensures.source c.deliver.ensures
