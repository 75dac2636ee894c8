use Rattle.pyr_machine.proofs.Rehearsed.{fresh_finish, finished}
use Rattle.pyr_team.proofs.team.stepped.Goals as goal

pub finish-requires : goal.finish-requires
finish-requires c =
    fresh_finish c.args.loaded.now.bundle 0 c.args.loaded.now.steps c.args.state c.requires.bundle c.requires.frame c.requires.start c.is_good.ensures.good

pub returns-clause-outputs : goal.returns-clause-outputs
returns-clause-outputs c =
    finished c.args.loaded.now.bundle 0 c.args.state c.finish.new.self c.in_ok-outputs.outputs.lists c.is_good.ensures.bundle c.requires.bundle c.requires.frame c.requires.start c.finish.ensures.bundle c.finish.ensures.end c.in_ok-outputs.ensures
