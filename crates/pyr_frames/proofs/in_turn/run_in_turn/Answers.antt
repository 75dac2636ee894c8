use Rattle.std.proofs.Common.{◌+◌, sym, subst}
use Rattle.pyr_machine.specs.Good.{Prints}
use Rattle.pyr_frames.specs.FrameState.{PrintFrames}
use Rattle.pyr_frames.proofs.FrameCalls.{printed_more}
use Rattle.pyr_frames.proofs.in_turn.run_in_turn.Goals as goal

pub loop-frame-preserved : goal.loop-frame-preserved
loop-frame-preserved c =
    let b = c.args.loaded.now.bundle in
    let k = c.loop-frame.frame in
    let o = c.in_ok-run_frame.field-0 in
    record {
      bundle = c.run_frame.ensures.bundle;
      printed =
          subst (PrintFrames b (k + 1)) (sym c.in_ok-push.ensures.items)
          (printed_more b k c.loop-frame.printed.items o c.loop-frame.invariant.printed
          (subst (λ m. Prints b m o.lists) c.from.ensures c.in_ok-run_frame.ensures.printed));
    }
