use Rattle.pyr_calm.proofs.Bundles.{calm_stays_good}
use Rattle.pyr_calm.proofs.laws.calm_capacities_never_wait.Goals as goal

pub returns : goal.returns
returns c b lines is good calm = calm_stays_good b lines good calm
