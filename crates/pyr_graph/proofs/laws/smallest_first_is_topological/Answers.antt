use Rattle.pyr_graph.specs.System.{task_count, IsEdge}
use Rattle.pyr_graph.proofs.SmallestFirst.{IsTopological-from_first}
use Rattle.pyr_graph.proofs.laws.smallest_first_is_topological.Goals as goal

pub returns : goal.returns
returns c = λ s order full first. IsTopological-from_first (task_count s) (IsEdge s) order first full
