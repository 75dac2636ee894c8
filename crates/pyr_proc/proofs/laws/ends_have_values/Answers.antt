use Rattle.pyr_proc.proofs.EndLemmas.{ends_have}
use Rattle.pyr_proc.proofs.laws.ends_have_values.Goals as goal

pub returns : goal.returns
returns c = ends_have
