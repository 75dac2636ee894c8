use Rattle.pyr_proc.proofs.MakingLemmas.{known_at, room_more}
use Rattle.pyr_proc.proofs.room.room_of.Goals as goal

pub room_at-more-requires : goal.room_at-more-requires
room_at-more-requires c = known_at c.args.bundle.now c.args.p.0 c.code-instr-items.result.now c.loop-instr.instr-index _ c.well_formed-2.ensures c.code-instr-items.ensures c.loop-instr-test.true

pub loop-instr-preserved : goal.loop-instr-preserved
loop-instr-preserved c =
    rw (c.max.ensures, c.max-in-loop-instr.ensures)
    (room_more c.args.bundle.now c.args.p.0 c.code-instr-items.result.now c.loop-instr.instr-index _ c.loop-instr.room.slots c.loop-instr.room.words c.room_at-more.result.slots c.room_at-more.result.words
    c.code-instr-items.ensures c.loop-instr-test.true c.loop-instr.invariant c.room_at-more.ensures)
