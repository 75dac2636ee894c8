use Rattle.std.proofs.Common.{◌≡◌, [], replicate}
use Rattle.pyr_graphtext.proofs.running.no_words.Given as goal

abbrev pub invariant-loop-datum : goal.invariant-loop-datum
invariant-loop-datum l = l.table.items ≡ replicate l._datum []
