use Rattle.std.proofs.Common.{◌≡◌, ◌-◌, ◌++◌, map}
use Rattle.std.specs.List.{range_with_len}
use Rattle.pyr_graph.specs.System.{datum_count}
use Rattle.pyr_graphtext.specs.Canonical.{data_line, data_lines, text_of, AreLineTokens}
use Rattle.pyr_graphtext.proofs.printing.write_data.Given as goal

abbrev pub invariant-loop-number : goal.invariant-loop-number
invariant-loop-number l = record {
  so_far : l.out.items ++ text_of (map (data_line l.program) (range_with_len l.number (datum_count l.program.graph - l.number)))
      ≡ l.initial.out.items ++ text_of (data_lines l.program);
  tokens : AreLineTokens (map (data_line l.program) (range_with_len l.number (datum_count l.program.graph - l.number)))
      → AreLineTokens (data_lines l.program);
}
