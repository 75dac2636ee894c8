use Rattle.pyr_body.proofs.OutcomeLemmas.{went_on}
use Rattle.pyr_body.proofs.taking.go_on.Goals as goal

pub returns : goal.returns
returns c = went_on _ _ _ _ c.in_ok-state.was c.take_tokens.ensures
