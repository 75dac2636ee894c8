use Rattle.pyr_body.proofs.TreeLines.{lines_are_one_tree}
use Rattle.pyr_body.proofs.laws.lines_are_one_tree.Goals as goal

pub returns : goal.returns
returns c = lines_are_one_tree
