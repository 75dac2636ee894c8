use Rattle.pyr_lex.proofs.Lines.{reading_is_exact}
use Rattle.pyr_lex.proofs.laws.reading_is_exact.Goals as goal

pub returns : goal.returns
returns c = reading_is_exact
