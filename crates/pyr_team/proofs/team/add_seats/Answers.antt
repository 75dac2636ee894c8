use Rattle.pyr_proc.proofs.MovingLemmas.{one_over, moved}
use Rattle.pyr_team.proofs.team.add_seats.Goals as goal

pub loop-processor-preserved : goal.loop-processor-preserved
loop-processor-preserved c =
    let next = c.in-Some.ensures.steps.0 in
    let i = c.loop-processor.invariant in
    let push = c.push_reserved.ensures in
    (tt, tt, moved _ _ _ _ _ _ _ i.2 next c.into_seat.ensures push.items, one_over _ _ _ _ _ _ _ next i.3 push.len push.capacity)
