use Rattle.std.proofs.Common.{◌≡◌, ℕ, ◌<◌, ◌-◌, ◌++◌}
use Rattle.std.specs.List.{flat_map, range_with_len}
use Rattle.pyr_body.specs.RoundTrip.{IsReadAgain}
use Rattle.pyr_graph.specs.System.{task_count}
use Rattle.pyr_graphtext.specs.Program.{body_at}
use Rattle.pyr_graphtext.specs.Canonical.{read_names, written_names, task_lines, all_task_lines, text_of, AreLineTokens}
use Rattle.pyr_graphtext.proofs.printing.write_tasks.Given as goal

abbrev pub invariant-loop-number : goal.invariant-loop-number
invariant-loop-number l = record {
  so_far : l.out.items ++ text_of (flat_map (task_lines l.program) (range_with_len l.number (task_count l.program.graph - l.number)))
      ≡ l.initial.out.items ++ text_of (all_task_lines l.program);
  tokens : AreLineTokens (flat_map (task_lines l.program) (range_with_len l.number (task_count l.program.graph - l.number)))
      → AreLineTokens (all_task_lines l.program);
  bodies : (t : ℕ) → t < l.number → IsReadAgain (body_at l.program t) (read_names l.program t) (written_names l.program t);
}
