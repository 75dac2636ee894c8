use Rattle.pyr_loader.proofs.Safety.{safe}
use Rattle.pyr_loader.proofs.laws.loaded_bundles_are_safe.Goals as goal

pub returns : goal.returns
returns c = safe
