use Rattle.pyr_merge.proofs.UniqueLemmas.{one-placement}
use Rattle.pyr_merge.proofs.laws.a_clustering_has_one_placement.Goals as goal

pub returns : goal.returns
returns c = one-placement
