use Rattle.std.proofs.Common.{true≢false, sym, refl}
use Rattle.std.proofs.lemmas.List.Elements.{All-rest}
use Rattle.pyr_team.specs.Workers.{seat_of, IsReady}
use Rattle.pyr_proc.proofs.MovingLemmas.{one_over}
use Rattle.pyr_team.proofs.JoinLemmas.{fewer, started}
use Rattle.pyr_team.proofs.workers.start_all.Goals as goal

pub loop-seat-preserved-in_default : goal.loop-seat-preserved-in_default
loop-seat-preserved-in_default g c =
    let next = c.in-Some.ensures.steps.0 in
    let i = c.loop-seat.invariant in
    (tt, tt, λ e. absurd (true≢false (sym e)), fewer _ _ _ _ _ next i.3, All-rest (IsReady c.args.loaded.now.bundle) _ _ _ next i.4, fewer _ _ _ _ _ next i.5, one_over _ _ _ _ _ _ _ next i.6 refl refl)

pub loop-seat-preserved : goal.loop-seat-preserved
loop-seat-preserved g c =
    let next = c.in-Some.ensures.steps.0 in
    let i = c.loop-seat.invariant in
    let push = c.push_reserved.ensures in
    let made = c.in-Some-start_allowed.ensures in
    (tt, tt, λ e. started seat_of _ _ _ _ _ _ _ (i.2 e) next made push.items, one_over _ _ _ _ _ _ _ next i.3 push.len push.capacity, All-rest (IsReady c.args.loaded.now.bundle) _ _ _ next i.4, one_over _ _ _ _ _ _ _ next i.5 push.len refl, one_over _ _ _ _ _ _ _ next i.6 refl refl)
