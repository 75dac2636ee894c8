use Rattle.pyr_size.proofs.Sized.{sized_completes}
use Rattle.pyr_size.proofs.laws.sized_completes.Goals as goal

pub returns : goal.returns
returns c = sized_completes
