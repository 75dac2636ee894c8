use Rattle.pyr_top.specs.Headline.{PrintsTheSame}
use Rattle.pyr_top.proofs.LoadLemmas.{runs_safely}
use Rattle.pyr_top.proofs.CompiledLemmas.{prints_the_same}
use Rattle.pyr_top.proofs.command_outputs.bundle_text.Goals as goal

pub returns-clause-safe : goal.returns-clause-safe
returns-clause-safe c =
    let prints : PrintsTheSame c.args.program.now c.in_ok-bundle.bundle =
    prints_the_same c.args.program.now c.args.processors c.in_ok-bundle.bundle c.is_bundle.ensures c.in_ok-bundle.ensures.compiled c.in_ok-bundle.ensures.meaning
    in
    runs_safely c.in_ok-text.text.items c.args.program.now c.in_ok-bundle.bundle c.is_bundle.ensures c.in_ok-bundle.ensures.good c.in_ok-bundle.ensures.meaning prints c.in_ok-text.ensures.read_again c.in_ok-text.ensures.fits
