use Rattle.std.proofs.Common.{arith}
use Rattle.pyr_decimal.proofs.Digits.{stops, ends}
use Rattle.pyr_decimal.proofs.numeral.digits.Goals as goal

pub returns-in_err-number : goal.returns-in_err-number
returns-in_err-number c =
    rw c.from_residual.ensures (stops c.args.text.now c.loop-byte.number c.loop-byte.byte-index c.loop-byte-test.true c.in_err-number.ensures c.loop-byte.invariant)

pub returns : goal.returns
returns c =
    ends c.args.text.now c.loop-byte.number c.loop-byte.byte-index (omega arith) c.loop-byte.invariant
