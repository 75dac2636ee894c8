use Rattle.pyr_decimal.proofs.Numbers.{number_is_decimal}
use Rattle.pyr_decimal.proofs.laws.number_is_decimal.Goals as goal

pub returns : goal.returns
returns c = number_is_decimal
