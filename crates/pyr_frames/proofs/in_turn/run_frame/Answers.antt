use Rattle.std.proofs.Common.{◌∙◌}
use Rattle.std.proofs.lemmas.Result.{IfOk-weaker}
use Rattle.pyr_num.specs.declared.lists.Outputs.{Outputs}
use Rattle.pyr_machine.specs.Good.{AreOutputs, Prints}
use Rattle.pyr_machine.specs.State.{state_world}
use Rattle.pyr_machine.proofs.Rehearsed.{fresh_finish, finished}
use Rattle.pyr_frames.proofs.in_turn.run_frame.Goals as goal

pub finish-requires : goal.finish-requires
finish-requires c =
    let l = c.args.loaded.now in
    fresh_finish l.bundle c.args.frame l.steps c.restart.new.self
    (c.restart.ensures.bundle ∙ c.requires) c.restart.ensures.frame c.restart.ensures.start
    c.is_good.ensures.good

pub returns-clause-printed : goal.returns-clause-printed
returns-clause-printed c =
    let l = c.args.loaded.now in
    let z = c.finish.new.self in
    IfOk-weaker c.outputs.result (λ (o : Outputs). AreOutputs z.bundle (state_world z) o.lists)
    (λ (o : Outputs). Prints l.bundle c.args.frame o.lists)
    (λ (o : Outputs).
    finished l.bundle c.args.frame c.restart.new.self z o.lists c.is_good.ensures.bundle
    (c.restart.ensures.bundle ∙ c.requires) c.restart.ensures.frame c.restart.ensures.start
    c.finish.ensures.bundle c.finish.ensures.end)
    c.outputs.ensures
