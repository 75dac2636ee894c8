use Rattle.pyr_calm.proofs.Bundles.{one_calm}
use Rattle.pyr_calm.proofs.laws.one_list_is_calm.Goals as goal

pub returns : goal.returns
returns c b lines others calm also = one_calm b lines others calm also
