use Rattle.std.proofs.Common.{◌≡◌, ◌+◌, ◌≤◌, drop, min}
use Rattle.pyr_code.specs.Seen.{code_of}
use Rattle.pyr_code.specs.Size.{code_work}
use Rattle.pyr_num.specs.declared.work.TheConstants.{TOO_MUCH}
use Rattle.pyr_bundletext.proofs.open_code.+work.Given as goal

abbrev pub invariant-capped_work-loop-op : goal.invariant-capped_work-loop-op
invariant-capped_work-loop-op l = record {
  so_far : min (l.sum + code_work (code_of (drop l.op-index l.ops))) TOO_MUCH
      ≡ min (code_work (code_of l.ops)) TOO_MUCH;
  capped : l.sum ≤ TOO_MUCH;
}
