use Rattle.pyr_loader.proofs.OneAnswer.{one_answer}
use Rattle.pyr_loader.proofs.laws.one_answer_is_told.Goals as goal

pub returns : goal.returns
returns c = one_answer
