use Rattle.std.proofs.Common.{◌≡◌, ◌+◌, drop}
use Rattle.pyr_code.specs.Seen.{code_of}
use Rattle.pyr_code.specs.Size.{code_work}
use Rattle.pyr_code.proofs.sizes.+work.Given as goal

abbrev pub invariant-ops_work-loop-op : goal.invariant-ops_work-loop-op
invariant-ops_work-loop-op l = l.sum + code_work (code_of (drop l.op-index l.ops)) ≡ code_work (code_of l.ops)
