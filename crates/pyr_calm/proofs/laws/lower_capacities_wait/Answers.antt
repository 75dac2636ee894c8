use Rattle.pyr_calm.proofs.Bundles.{lower_waits}
use Rattle.pyr_calm.proofs.laws.lower_capacities_wait.Goals as goal

pub returns : goal.returns
returns c b lines i is calm l two = lower_waits b lines i is calm l two
