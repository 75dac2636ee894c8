use Rattle.std.proofs.Common.{◌≡◌, ◌*◌, ◌≤◌, take}
use Rattle.std.specs.Prelude.{sum}
use Rattle.pyr_num.specs.declared.limits.TheConstants.Limits.{TIME}
use Rattle.pyr_simul.proofs.bounding.load_of.Given as goal

abbrev pub invariant-loop-time : goal.invariant-loop-time
invariant-loop-time l = record {
  sum_is : l.total ≡ sum (take l.time-index l.time-items);
  small : l.total ≤ l.time-index * TIME;
}
