use Rattle.pyr_net.proofs.Occupied.{suffices, occupancy_fits}
use Rattle.pyr_net.proofs.laws.occupancy_suffices.Goals as goal

pub returns-clause-suffices : goal.returns-clause-suffices
returns-clause-suffices g c net w run capacity r h = suffices net w run capacity r h

pub returns-clause-fits : goal.returns-clause-fits
returns-clause-fits g c net w run r f p q = occupancy_fits net w run r f p q
