use Rattle.pyr_size.proofs.Turns.{again_more}
use Rattle.pyr_size.proofs.schedule.push_turns.Goals as goal

pub loop-turn-preserved : goal.loop-turn-preserved
loop-turn-preserved c =
    again_more c.loop-turn._turn c.args.block.processor c.args.schedule.now.items c.loop-turn.schedule.items c.push.new.self.items c.loop-turn.invariant c.in_ok-push.ensures.items
