use Rattle.pyr_team.proofs.HomeLemmas.{AreSettled}
use Rattle.pyr_team.proofs.homes.homes.Given as goal

abbrev pub invariant-loop-p : goal.invariant-loop-p
invariant-loop-p l = AreSettled l.bundle l.p l.homes.items
