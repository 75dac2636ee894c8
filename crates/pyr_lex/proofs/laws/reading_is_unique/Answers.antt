use Rattle.pyr_lex.proofs.Lines.{reading_is_unique}
use Rattle.pyr_lex.proofs.laws.reading_is_unique.Goals as goal

pub returns : goal.returns
returns c = reading_is_unique
