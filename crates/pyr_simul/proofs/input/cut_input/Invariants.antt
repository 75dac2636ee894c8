use Rattle.std.proofs.Common.{length}
use Rattle.pyr_simul.proofs.CutLemmas.{HasPassed}
use Rattle.pyr_simul.proofs.input.cut_input.Given as goal

-- the lines before what is left are no lines `durations`
abbrev pub invariant-loop-rest : goal.invariant-loop-rest
invariant-loop-rest l = HasPassed l.input l.number l.rest

abbrev pub decreases-loop-rest : goal.decreases-loop-rest
decreases-loop-rest l = length l.rest
