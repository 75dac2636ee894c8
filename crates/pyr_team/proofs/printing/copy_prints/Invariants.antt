use Rattle.pyr_team.specs.Homes.{AreCopied}
use Rattle.pyr_team.proofs.printing.copy_prints.Given as goal

abbrev pub invariant-loop-i : goal.invariant-loop-i
invariant-loop-i l = AreCopied l.loaded.bundle l.i l.lists
