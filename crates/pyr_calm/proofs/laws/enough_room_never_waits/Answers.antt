use Rattle.pyr_calm.proofs.Rooms.{stays_calm}
use Rattle.pyr_calm.proofs.laws.enough_room_never_waits.Goals as goal

pub returns : goal.returns
returns g c net w room calm fits = stays_calm net room w calm fits
