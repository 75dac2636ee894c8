use Rattle.std.proofs.Common.{◌≡◌, ◌+◌, length, take}
use Rattle.std.specs.Prelude.{sum_by}
use Rattle.pyr_num.specs.declared.limits.TheConstants.Limits.{ALL_READS}
use Rattle.pyr_graph.proofs.limits.passes_all_reads.Given as goal

-- what is left and the reads so far make up the limit
abbrev pub invariant-loop-task : goal.invariant-loop-task
invariant-loop-task l = l.left + sum_by (λ t. length t.reads) (take l.task-index l.tasks) ≡ ALL_READS
