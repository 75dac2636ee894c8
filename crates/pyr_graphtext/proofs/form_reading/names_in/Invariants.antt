use Rattle.std.proofs.Common.{◌≡◌, drop}
use Rattle.pyr_lex.specs.Token.{tokens_in}
use Rattle.pyr_graphtext.specs.FormReading.{names_in}
use Rattle.pyr_graphtext.proofs.Fronts.{with_front}
use Rattle.pyr_graphtext.proofs.form_reading.names_in.Given as goal

-- the names so far, and those of the tokens that are left, are those of all tokens
abbrev pub invariant-loop-token : goal.invariant-loop-token
invariant-loop-token l = with_front l.names.items (names_in (tokens_in (drop l.token-index l.tokens))) ≡ names_in (tokens_in l.tokens)
