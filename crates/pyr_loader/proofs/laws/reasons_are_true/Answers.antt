use Rattle.pyr_loader.proofs.Reasons.{true_reasons}
use Rattle.pyr_loader.proofs.laws.reasons_are_true.Goals as goal

pub returns : goal.returns
returns c = true_reasons
