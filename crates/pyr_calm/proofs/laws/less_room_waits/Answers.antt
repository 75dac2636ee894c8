use Rattle.pyr_calm.proofs.Rooms.{less_waits}
use Rattle.pyr_calm.proofs.laws.less_room_waits.Goals as goal

pub returns : goal.returns
returns g c net w room p q n h e k = less_waits net room w p q n h e k
