use Rattle.std.proofs.lemmas.List.Elements.{All-rest}
use Rattle.pyr_proc.specs.Seated.{IsOf}
use Rattle.pyr_proc.proofs.MovingLemmas.{one_over, moved}
use Rattle.pyr_proc.proofs.processor.Processor.all_seated.Goals as goal

pub loop-seat-preserved : goal.loop-seat-preserved
loop-seat-preserved c =
    let next = c.in-Some.ensures.steps.0 in
    let i = c.loop-seat.invariant in
    let push = c.push_reserved.ensures in
    (tt, tt, moved _ _ _ _ _ _ _ i.2 next c.seated.ensures push.items, one_over _ _ _ _ _ _ _ next i.3 push.len push.capacity, All-rest (IsOf c.args.loaded.now.bundle) _ _ _ next i.4)
