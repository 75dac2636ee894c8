use Rattle.pyr_graphtext.proofs.OneAnswer.{one_answer_is_told}
use Rattle.pyr_graphtext.proofs.laws.one_answer_is_told.Goals as goal

pub returns : goal.returns
returns c = one_answer_is_told
