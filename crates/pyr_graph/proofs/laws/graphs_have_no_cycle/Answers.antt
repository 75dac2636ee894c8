use Rattle.pyr_graph.specs.System.{task_count, IsEdge}
use Rattle.pyr_seq.proofs.WalkLemmas.{no_cycle}
use Rattle.pyr_graph.proofs.IndexLemmas.{edge_in}
use Rattle.pyr_graph.proofs.laws.graphs_have_no_cycle.Goals as goal

pub returns : goal.returns
returns c = λ s order top. no_cycle (task_count s) (IsEdge s) order top (edge_in s)
