use Rattle.std.proofs.Common.{◌≡◌, ◌*◌, ◌≤◌, take, sum_by, count_by}
use Rattle.pyr_num.specs.declared.limits.TheConstants.Limits.{INSTRUCTIONS}
use Rattle.pyr_verify.specs.Summary.{is_send}
use Rattle.pyr_verify.proofs.counting.message_count.Given as goal

abbrev pub invariant-loop-p : goal.invariant-loop-p
invariant-loop-p l = record {
  is : l.count ≡ sum_by (count_by is_send) (take l.p l.bundle.code);
  few : l.count ≤ l.p * INSTRUCTIONS;
}
