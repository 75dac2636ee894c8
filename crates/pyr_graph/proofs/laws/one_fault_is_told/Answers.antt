use Rattle.pyr_graph.proofs.OneFault.{IsFault-one, none_where_sound}
use Rattle.pyr_graph.proofs.laws.one_fault_is_told.Goals as goal

pub returns : goal.returns
returns c = λ s. (IsFault-one s, none_where_sound s)
