use Rattle.std.proofs.Common.{◌≡◌, ◌++◌, map, drop}
use Rattle.pyr_graphtext.specs.Canonical.{names_of, print_line, text_of, AreLineTokens}
use Rattle.pyr_graphtext.proofs.printing.write_prints.Given as goal

abbrev pub invariant-loop-datum : goal.invariant-loop-datum
invariant-loop-datum l = record {
  so_far : l.out.items ++ text_of (map print_line (names_of l.program (drop l.datum-index l.datum-items)))
      ≡ l.initial.out.items ++ text_of (map print_line (names_of l.program l.datum-items));
  tokens : AreLineTokens (map print_line (names_of l.program (drop l.datum-index l.datum-items)))
      → AreLineTokens (map print_line (names_of l.program l.datum-items));
}
