use Rattle.pyr_lex.proofs.Written.{written_is_read}
use Rattle.pyr_lex.proofs.laws.written_is_read.Goals as goal

pub returns : goal.returns
returns c = written_is_read
