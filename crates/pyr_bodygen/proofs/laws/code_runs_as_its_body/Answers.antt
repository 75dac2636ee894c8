use Rattle.pyr_bodygen.proofs.CodeLemmas.{same_cells}
use Rattle.pyr_bodygen.proofs.laws.code_runs_as_its_body.Goals as goal

pub returns : goal.returns
returns c = same_cells
