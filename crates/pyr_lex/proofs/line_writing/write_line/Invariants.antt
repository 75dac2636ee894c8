use Rattle.std.proofs.Common.{◌≡◌, ◌++◌, drop}
use Rattle.pyr_lex.specs.Token.{AreTokens}
use Rattle.pyr_lex.specs.Spacing.{canonical_line}
use Rattle.pyr_lex.proofs.WritingLemmas.{rest_text}
use Rattle.pyr_lex.proofs.line_writing.write_line.Given as goal

abbrev pub invariant-loop-token : goal.invariant-loop-token
invariant-loop-token l = record {
  so_far : l.out.items ++ rest_text l.last (drop l.token-index l.tokens) ≡ l.initial.out.items ++ canonical_line l.tokens;
  tokens : AreTokens (drop l.token-index l.tokens) → AreTokens l.tokens;
}
