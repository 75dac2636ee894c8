use Rattle.std.proofs.Common.{[], ◌∷◌, map}
use Rattle.pyr_team.specs.Workers.{AllRan, seat_of}
use Rattle.pyr_team.proofs.JoinLemmas.{if_there}
use Rattle.pyr_team.proofs.SeatLemmas.{one_ran}
use Rattle.pyr_team.proofs.workers.run_and_join.Goals as goal

pub run-requires-clause-bundle : goal.run-requires-clause-bundle
run-requires-clause-bundle g c κs within = c.requires.ready.bundle

pub run-requires-clause-next : goal.run-requires-clause-next
run-requires-clause-next g c κs within = c.requires.ready.ran

pub returns : goal.returns
returns g c =
    let first = one_ran c.args.done.items c.push_reserved.new.self.items c.args.first c.run.new.self c.requires.empty c.push_reserved.ensures.items c.run.ensures in
    rw c.then_some.ensures (if_there (λ ran. AllRan (c.args.first ∷ map seat_of c.args.handles.items) ran.items) c.join_all.result c.join_all.new.done (λ e. c.join_all.ensures e (c.args.first ∷ []) first))
