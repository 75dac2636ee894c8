use Rattle.std.proofs.Common.{◌≡◌, ◌++◌, length, drop}
use Rattle.pyr_body.specs.Seen.{statements_of}
use Rattle.pyr_body.specs.Scope.{AreScoped}
use Rattle.pyr_body.specs.Lines.{lines_of}
use Rattle.pyr_body.specs.Printed.{lines_text, AreLineTokens}
use Rattle.pyr_body.proofs.printing.+print.Given as goal

abbrev pub invariant-print_statements-loop-statement : goal.invariant-print_statements-loop-statement
invariant-print_statements-loop-statement l = record {
  so_far : l.out.items ++ lines_text l.locals l.names.reads l.names.writes (lines_of (statements_of (drop l.statement-index l.statements)))
      ≡ l.initial.out.items ++ lines_text l.locals l.names.reads l.names.writes (lines_of (statements_of l.statements));
  tokens : AreLineTokens l.locals l.names.reads l.names.writes (lines_of (statements_of (drop l.statement-index l.statements)))
      → AreLineTokens l.locals l.names.reads l.names.writes (lines_of (statements_of l.statements));
  scoped : AreScoped (length l.names.reads) (length l.names.writes) (length l.locals) (statements_of (drop l.statement-index l.statements));
}
