use Rattle.std.proofs.Common.{◌∙◌}
use Rattle.pyr_machine.proofs.Rehearsed.{fresh_finish, finished}
use Rattle.pyr_verify.proofs.running.run_serially.Goals as goal

pub finish-requires : goal.finish-requires
finish-requires c =
    fresh_finish c.args.loaded.now.bundle 0 c.args.loaded.now.steps c.in_ok-state.state (c.in_ok-state.ensures.bundle ∙ c.bundle.ensures) c.in_ok-state.ensures.frame c.in_ok-state.ensures.start c.is_good.ensures.good

pub returns : goal.returns
returns c =
    finished c.args.loaded.now.bundle 0 c.in_ok-state.state c.finish.new.self c.in_ok-outputs.outputs.lists c.is_good.ensures.bundle
    (c.in_ok-state.ensures.bundle ∙ c.bundle.ensures) c.in_ok-state.ensures.frame c.in_ok-state.ensures.start c.finish.ensures.bundle c.finish.ensures.end c.in_ok-outputs.ensures
