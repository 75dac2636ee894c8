use Rattle.pyr_bundle.proofs.OneFault.{one_fault}
use Rattle.pyr_bundle.proofs.laws.one_fault_is_told.Goals as goal

pub returns : goal.returns
returns c = one_fault
