use Rattle.std.proofs.Common.{All, List, sym, subst, arith}
use Rattle.pyr_proc.specs.Seated.{Seated}
use Rattle.pyr_team.specs.Team.{HaveRun}
use Rattle.pyr_team.specs.Workers.{IsReady}
use Rattle.pyr_team.proofs.SeatLemmas.{are_ready, all_of, team_ran}
use Rattle.pyr_team.proofs.team.run_processors.Goals as goal

pub run_seats-requires-clause-ready : goal.run_seats-requires-clause-ready
run_seats-requires-clause-ready g c κs within = subst (λ (v : List Seated). All (IsReady c.args.loaded.now.bundle) v) (sym c.in_ok-first.ensures) (are_ready c.args.loaded.now.bundle c.args.processors.items c.requires)

pub all_seated-requires-clause-bundle : goal.all_seated-requires-clause-bundle
all_seated-requires-clause-bundle g c =
    let all = rw c.in-Some.is at c.in_ok-seats.ensures in
    all_of c.args.loaded.now.bundle c.in-Some.seats.items (team_ran c.args.loaded.now.bundle c.args.processors.items c.in_ok-first.first c.in_ok-first.others.items c.in-Some.seats.items c.requires c.in_ok-first.ensures all)

pub all_seated-requires-clause-room : goal.all_seated-requires-clause-room
all_seated-requires-clause-room g c =
    let all = rw c.in-Some.is at c.in_ok-seats.ensures in
    let r = team_ran c.args.loaded.now.bundle c.args.processors.items c.in_ok-first.first c.in_ok-first.others.items c.in-Some.seats.items c.requires c.in_ok-first.ensures all in
    let n = r.count in
    let m = c.requires.count in
    let k = c.in-Some.seats.ok.0 in
    let l = c.args.processors.ok.0 in
    let room = c.in_ok-ran.ensures.capacity in
    let len = c.len.ensures in
    omega arith

pub returns-in-Some : goal.returns-in-Some
returns-in-Some g c =
    let all = rw c.in-Some.is at c.in_ok-seats.ensures in
    subst (HaveRun c.args.loaded.now.bundle) (sym c.all_seated.ensures)
    (team_ran c.args.loaded.now.bundle c.args.processors.items c.in_ok-first.first c.in_ok-first.others.items c.in-Some.seats.items c.requires c.in_ok-first.ensures all)
