use Rattle.std.proofs.Common.{true≢false, sym, ◌∙◌}
use Rattle.pyr_proc.specs.Seated.{HasRun}
use Rattle.pyr_team.specs.Workers.{seat_of}
use Rattle.pyr_proc.proofs.MovingLemmas.{one_over}
use Rattle.pyr_team.proofs.JoinLemmas.{goes_on}
use Rattle.pyr_team.proofs.workers.join_all.Goals as goal
use Rattle.pyr_team.proofs.workers.join_all.Goals.{then-all, else-all}

pub loop-handle-preserved : goal.loop-handle-preserved
loop-handle-preserved g c =
    let next = c.in-Some.ensures.steps.0 in
    let i = c.loop-handle.invariant in
    let push = c.push_reserved.ensures in (
      tt,
      tt,
      λ e seats ran. elim c.if-all.branch [
        | then-all w ↦ goes_on (HasRun 0) seat_of _ _ _ _ _ _ _ (i.2 w.if-all.true seats ran) next (c.join-seat.ensures (sym w.all-is ∙ e)) push.items
        | else-all w ↦ absurd (true≢false (sym e ∙ w.all-is ∙ w.if-all.false))
      ],
      one_over _ _ _ _ _ _ _ next i.3 push.len push.capacity,
    )
