use Rattle.std.proofs.lemmas.Result.{IfOk-weaker}
use Rattle.pyr_num.specs.declared.lists.Outputs.{Outputs}
use Rattle.pyr_machine.specs.Good.{AreOutputs, Prints}
use Rattle.pyr_machine.specs.State.{state_world}
use Rattle.pyr_frames.specs.Frames.{AreGained}
use Rattle.pyr_frames.specs.FrameState.{frame_world}
use Rattle.pyr_frames.proofs.FrameAnswers.{machine_ended, outputs_gained, outputs_print}
use Rattle.pyr_frames.proofs.frame_state.FrameState.outputs.Goals as goal

pub outputs-requires : goal.outputs-requires
outputs-requires c =
    machine_ended _ _ c.self.view_is c.self.invariant.1 c.args.frame c.requires
    c.index.result.now c.index.ensures

pub returns-clause-gained : goal.returns-clause-gained
returns-clause-gained c =
    let s = c.index.result.now in
    IfOk-weaker c.outputs.result (λ (o : Outputs). AreOutputs s.bundle (state_world s) o.lists)
    (λ (o : Outputs).
    AreGained c.args.self.now.bundle (frame_world c.args.self.now) c.args.frame o.lists)
    (λ (o : Outputs).
    outputs_gained _ _ c.self.view_is c.self.invariant.1 c.args.frame c.requires s c.index.ensures
    o.lists)
    c.outputs.ensures

pub returns-clause-printed : goal.returns-clause-printed
returns-clause-printed c =
    let s = c.index.result.now in
    IfOk-weaker c.outputs.result (λ (o : Outputs). AreOutputs s.bundle (state_world s) o.lists)
    (λ (o : Outputs). Prints c.args.self.now.bundle c.args.frame o.lists)
    (λ (o : Outputs).
    outputs_print _ _ c.self.view_is c.self.invariant.1 c.args.frame c.requires s c.index.ensures
    o.lists)
    c.outputs.ensures
