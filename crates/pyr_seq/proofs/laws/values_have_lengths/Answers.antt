use Rattle.pyr_seq.proofs.SequentialLemmas.{values-lengths}
use Rattle.pyr_seq.proofs.laws.values_have_lengths.Goals as goal

pub returns : goal.returns
returns c = values-lengths
