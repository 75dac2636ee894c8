use Rattle.std.proofs.Common.{arith}
use Rattle.pyr_graphtext.proofs.RoomLemmas.{room_more}
use Rattle.pyr_graphtext.proofs.room.Room.of.Goals as goal

pub loop-number-init : goal.loop-number-init
loop-number-init c = record {
  slots_fit = λ t h. absurd (omega (arith, h));
  words_fit = λ t h. absurd (omega (arith, h));
}

pub loop-number-preserved : goal.loop-number-preserved
loop-number-preserved c =
    room_more c.args.graph.now c.loop-number.number c.loop-number.room.slots c.loop-number.room.words c.max.result c.max-in-loop-number.result c.reads-reads.result.now c.writes-writes.result.now c.words_together.result c.words_together-in-loop-number.result
    c.loop-number.invariant c.reads-reads.ensures c.writes-writes.ensures c.words_together.ensures.sum c.words_together-in-loop-number.ensures.sum c.max.ensures c.max-in-loop-number.ensures

pub returns : goal.returns
returns c = record {
  slots_fit = λ t h. c.loop-number.invariant.slots_fit t (omega (arith, h, c.task_count-number-end.ensures, c.loop-number-test.false));
  words_fit = λ t h. c.loop-number.invariant.words_fit t (omega (arith, h, c.task_count-number-end.ensures, c.loop-number-test.false));
}
