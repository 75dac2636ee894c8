-- The tasks of a program have one writer of each datum, so the law of every list of tasks holds.
use Rattle.pyr_graphtext.proofs.RunningLemmas.{any_order}
use Rattle.pyr_graphtext.proofs.laws.any_order_gives_the_values.Goals as goal

pub returns : goal.returns
returns c = any_order
