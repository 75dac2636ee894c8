use Rattle.pyr_calm.proofs.Rooms.{one_greatest}
use Rattle.pyr_calm.proofs.laws.one_greatest_length.Goals as goal

pub returns : goal.returns
returns g c net w p q m n h k = one_greatest net w p q m n h k
