use Rattle.std.proofs.Common.{◌≡◌, ◌+◌, ◌%◌, ◌^◌, take, sum}
use Rattle.pyr_verify.proofs.counting.total_with.Given as goal

abbrev pub invariant-loop-word : goal.invariant-loop-word
invariant-loop-word l = l.more ≡ (l.total + sum (take l.word-index l.words)) % 2 ^ 64
