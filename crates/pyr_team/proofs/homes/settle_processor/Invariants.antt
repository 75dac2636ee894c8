use Rattle.pyr_team.proofs.HomeLemmas.{Covers}
use Rattle.pyr_team.proofs.homes.settle_processor.Given as goal

abbrev pub invariant-loop-i : goal.invariant-loop-i
invariant-loop-i l = Covers l.bundle l.p.0 l.i l.fn.homes l.homes
