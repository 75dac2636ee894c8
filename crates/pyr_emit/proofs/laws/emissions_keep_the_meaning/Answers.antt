use Rattle.pyr_emit.proofs.MeaningLemmas.{means_the_same}
use Rattle.pyr_emit.proofs.laws.emissions_keep_the_meaning.Goals as goal

pub returns : goal.returns
returns c = means_the_same
