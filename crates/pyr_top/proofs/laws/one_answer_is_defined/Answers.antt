use Rattle.pyr_top.proofs.OneAnswer.{one_answer}
use Rattle.pyr_top.proofs.laws.one_answer_is_defined.Goals as goal

pub returns : goal.returns
returns c = one_answer
