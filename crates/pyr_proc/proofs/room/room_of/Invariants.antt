use Rattle.pyr_proc.specs.Fitted.{HasRoom}
use Rattle.pyr_proc.proofs.room.room_of.Given as goal

-- there is room for the first of the tasks
abbrev pub invariant-loop-instr : goal.invariant-loop-instr
invariant-loop-instr l = HasRoom l.bundle l.fn.p.0 l.instr-index l.room.slots l.room.words
