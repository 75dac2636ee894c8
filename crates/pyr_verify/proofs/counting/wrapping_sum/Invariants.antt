use Rattle.std.proofs.Common.{◌≡◌, take}
use Rattle.pyr_verify.specs.Summary.{wrapping_sum}
use Rattle.pyr_verify.proofs.counting.wrapping_sum.Given as goal

abbrev pub invariant-loop-words : goal.invariant-loop-words
invariant-loop-words l = l.total ≡ wrapping_sum (take l.words-index l.words-items)
