use Rattle.std.proofs.Common.{◌≡◌, ◌+◌, max, drop}
use Rattle.pyr_code.specs.Seen.{code_of}
use Rattle.pyr_code.specs.Size.{code_nodes, code_loops, code_count, code_work}
use Rattle.pyr_graph_tests.proofs.tests.code.+size.Given as goal

abbrev pub invariant-size_of_ops-loop-op : goal.invariant-size_of_ops-loop-op
invariant-size_of_ops-loop-op l = record {
  nodes : l.size.nodes + code_nodes (code_of (drop l.op-index l.ops)) ≡ code_nodes (code_of l.ops);
  loops : max l.size.loops (code_loops (code_of (drop l.op-index l.ops))) ≡ code_loops (code_of l.ops);
  count : max l.size.count (code_count (code_of (drop l.op-index l.ops))) ≡ code_count (code_of l.ops);
  work : l.size.work + code_work (code_of (drop l.op-index l.ops)) ≡ code_work (code_of l.ops);
}
