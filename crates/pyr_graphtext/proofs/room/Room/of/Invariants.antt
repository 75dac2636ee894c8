use Rattle.pyr_graphtext.proofs.RoomLemmas.{HasRoomBelow}
use Rattle.pyr_graphtext.proofs.room.Room.of.Given as goal

abbrev pub invariant-loop-number : goal.invariant-loop-number
invariant-loop-number l = HasRoomBelow l.graph l.number l.room.slots l.room.words
