use Rattle.pyr_body.proofs.LineLemmas.{line_is_unique}
use Rattle.pyr_body.proofs.laws.line_is_unique.Goals as goal

pub returns : goal.returns
returns c = line_is_unique
