use Rattle.pyr_bodygen.proofs.CodeLemmas.{is_verified}
use Rattle.pyr_bodygen.proofs.laws.code_of_a_body_is_verified.Goals as goal

pub returns : goal.returns
returns c = is_verified
