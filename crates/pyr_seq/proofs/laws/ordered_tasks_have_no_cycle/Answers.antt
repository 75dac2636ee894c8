use Rattle.pyr_seq.specs.Sequential.{IsEdgeOf}
use Rattle.pyr_seq.proofs.WalkLemmas.{no_cycle_among}
use Rattle.pyr_seq.proofs.laws.ordered_tasks_have_no_cycle.Goals as goal

pub returns : goal.returns
returns c = λ tasks order cycle top. no_cycle_among tasks.count (IsEdgeOf tasks) order top cycle
