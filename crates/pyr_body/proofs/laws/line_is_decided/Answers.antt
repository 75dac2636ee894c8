use Rattle.pyr_body.proofs.LineLemmas.{line_is_decided}
use Rattle.pyr_body.proofs.laws.line_is_decided.Goals as goal

pub returns : goal.returns
returns c = line_is_decided
