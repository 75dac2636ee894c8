use Rattle.std.proofs.Common.{drop}
use Rattle.pyr_decimal.proofs.Digits.{GoesOn}
use Rattle.pyr_decimal.proofs.numeral.digits.Given as goal

abbrev pub invariant-loop-byte : goal.invariant-loop-byte
invariant-loop-byte l = GoesOn l.text l.number (drop l.byte-index l.text)
