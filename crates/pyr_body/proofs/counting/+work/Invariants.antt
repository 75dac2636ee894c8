use Rattle.std.proofs.Common.{◌≡◌, ◌+◌, ◌≤◌, ◌<◌, ◌^◌, drop, min}
use Rattle.pyr_body.specs.Seen.{statements_of}
use Rattle.pyr_body.specs.Size.{statements_nodes, statements_work}
use Rattle.pyr_num.specs.declared.work.TheConstants.{TOO_MUCH}
use Rattle.pyr_body.proofs.counting.+work.Given as goal

abbrev pub invariant-capped_work-loop-statement : goal.invariant-capped_work-loop-statement
invariant-capped_work-loop-statement l = record {
  so_far : min (l.sum + statements_work (statements_of (drop l.statement-index l.statements))) TOO_MUCH
      ≡ min (statements_work (statements_of l.statements)) TOO_MUCH;
  capped : l.sum ≤ TOO_MUCH;
  few : statements_nodes (statements_of (drop l.statement-index l.statements)) < 2 ^ 32;
}
