use Rattle.std.proofs.Common.{◌≡◌, ◌∷◌, map, take}
use Rattle.pyr_lex.specs.declared.token.Token.TheVariants.{Name as name_token, Word as word_token}
use Rattle.pyr_graphtext.proofs.printing.tokens_of_names.Given as goal

abbrev pub invariant-loop-name : goal.invariant-loop-name
invariant-loop-name l = l.tokens.items ≡ word_token l.fn.word ∷ map name_token (take l.name-index l.names)
