use Rattle.pyr_top.proofs.OneCommand.{one_command}
use Rattle.pyr_top.proofs.laws.words_spell_one_command.Goals as goal

pub returns : goal.returns
returns c = one_command
