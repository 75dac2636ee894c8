use Rattle.pyr_body.proofs.Readable.{uniquely_readable}
use Rattle.pyr_body.proofs.laws.expressions_are_uniquely_readable.Goals as goal

pub returns : goal.returns
returns c = uniquely_readable
