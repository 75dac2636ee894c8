use Rattle.pyr_team.proofs.HomeLemmas.{Settles}
use Rattle.pyr_team.proofs.homes.settle_task.Given as goal

-- the first of them have their home
abbrev pub invariant-loop-d : goal.invariant-loop-d
invariant-loop-d l = Settles l.bundle l.d-items l.d-index l.fn.homes l.homes
