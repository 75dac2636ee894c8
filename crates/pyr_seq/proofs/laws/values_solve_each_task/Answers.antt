use Rattle.pyr_seq.proofs.SequentialLemmas.{values-solve}
use Rattle.pyr_seq.proofs.laws.values_solve_each_task.Goals as goal

pub returns : goal.returns
returns c = values-solve
