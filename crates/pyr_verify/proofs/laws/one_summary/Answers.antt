use Rattle.pyr_verify.proofs.OneSummary.{one_summary}
use Rattle.pyr_verify.proofs.laws.one_summary.Goals as goal

pub returns : goal.returns
returns c = one_summary
