use Rattle.std.proofs.lemmas.List.Elements.{All-head, All-tail}
use Rattle.pyr_team.specs.Workers.{IsReady}
use Rattle.pyr_team.proofs.workers.in_scope.Goals as goal

pub start_all-all_started-requires-clause-ready : goal.start_all-all_started-requires-clause-ready
start_all-all_started-requires-clause-ready g c κs within = All-tail (IsReady c.args.loaded.now.bundle) c.args.first c.args.others.items c.requires.ready

pub run_and_join-requires-clause-ready : goal.run_and_join-requires-clause-ready
run_and_join-requires-clause-ready g c κs within = All-head (IsReady c.args.loaded.now.bundle) c.args.first c.args.others.items c.requires.ready
