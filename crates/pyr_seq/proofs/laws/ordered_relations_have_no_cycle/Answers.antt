use Rattle.std.specs.Prelude.{IsTrue}
use Rattle.pyr_seq.proofs.WalkLemmas.{no_cycle_among}
use Rattle.pyr_seq.proofs.laws.ordered_relations_have_no_cycle.Goals as goal

pub returns : goal.returns
returns c = λ count is_edge order cycle top. no_cycle_among count (λ a b. IsTrue (is_edge a b)) order top cycle
