use Rattle.std.proofs.Common.{◌≡◌, ◌+◌, ◌≤◌, drop}
use Rattle.pyr_code.specs.declared.stack.TheConstants.{MAX_HEIGHT}
use Rattle.pyr_code.specs.Seen.{code_of}
use Rattle.pyr_code.specs.Size.{code_nodes}
use Rattle.pyr_code.specs.Height.{height_after}
use Rattle.pyr_code.specs.Fault.{code_visits, first_among}
use Rattle.pyr_code.proofs.walking.+walk.Given as goal

abbrev pub invariant-walk_ops-loop-op : goal.invariant-walk_ops-loop-op
invariant-walk_ops-loop-op l = record {
  fault : first_among l.shape (code_visits (code_of l.ops) l.fn.start.place l.fn.start.height)
      ≡ first_among l.shape (code_visits (code_of (drop l.op-index l.ops)) l.reached.place l.reached.height);
  place : l.reached.place + code_nodes (code_of (drop l.op-index l.ops)) ≡ l.fn.start.place + code_nodes (code_of l.ops);
  height : height_after (code_of (drop l.op-index l.ops)) l.reached.height ≡ height_after (code_of l.ops) l.fn.start.height;
  low : l.reached.height ≤ MAX_HEIGHT;
}
