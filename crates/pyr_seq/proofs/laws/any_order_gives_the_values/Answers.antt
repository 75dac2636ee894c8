use Rattle.pyr_seq.proofs.SequentialLemmas.{values-same}
use Rattle.pyr_seq.proofs.laws.any_order_gives_the_values.Goals as goal

pub returns : goal.returns
returns c = values-same
