use Rattle.std.proofs.Common.{sym, subst}
use Rattle.pyr_bundle.specs.Parts.{IsBundle}
use Rattle.pyr_bundle.proofs.PartsLemmas.{bundle_of}
use Rattle.pyr_loader.proofs.LoadLemmas.{loaded, loaded_safe}
use Rattle.pyr_loader.proofs.loading.load.Goals as goal

pub returns-clause-loaded : goal.returns-clause-loaded
returns-clause-loaded c =
    loaded c.args.text.now c.in_ok-raw.raw c.in_ok-bundle.bundle c.in_ok-steps.steps c.new.result
    (subst IsBundle (sym c.in_ok-bundle.ensures.parts) (bundle_of c.in_ok-raw.raw c.in_ok-bundle.ensures.lawful c.in_ok-raw.ensures.bundle.limits))
    c.in_ok-raw.ensures.bundle c.in_ok-bundle.ensures.parts c.in_ok-bundle.ensures.lawful c.in_ok-steps.ensures.good c.new.ensures

pub returns-clause-safe : goal.returns-clause-safe
returns-clause-safe c =
    loaded_safe c.in_ok-bundle.bundle c.in_ok-steps.steps c.new.result
    (subst IsBundle (sym c.in_ok-bundle.ensures.parts) (bundle_of c.in_ok-raw.raw c.in_ok-bundle.ensures.lawful c.in_ok-raw.ensures.bundle.limits))
    c.in_ok-steps.ensures.good c.new.ensures
