use Rattle.std.proofs.Common.{◌∙◌, ap}
use Rattle.pyr_calm.specs.Capacities.{with_channels}
use Rattle.pyr_calm.proofs.Bundles.{is_calmed}
use Rattle.pyr_calm.proofs.capacities.calmed.Goals as goal

pub returns : goal.returns
returns c =
    is_calmed c.args.bundle c.with_capacities.result c.in_ok-lines.lines.items c.requires.good c.in_ok-lines.ensures.calm
    (c.with_capacities.ensures ∙ ap (with_channels c.args.bundle) c.deref.ensures.value)
