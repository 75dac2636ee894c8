use Rattle.pyr_body.proofs.StandingLemmas.{lines_taken_stand}
use Rattle.pyr_body.proofs.laws.lines_taken_stand.Goals as goal

pub returns : goal.returns
returns c = lines_taken_stand
