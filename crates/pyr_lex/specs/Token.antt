-- The values that tokens have, and their texts.
use Rattle.std.specs.Prelude.{ℕ, ◌<◌, ◌^◌, List, map, ⊤, IsTrue, decimal}
use Rattle.std.specs.List.{AllByRecursion}
use Rattle.pyr_num.specs.Name.{is_name}
use Rattle.pyr_lex.specs.declared.token.Token.{Token}
use Rattle.pyr_lex.specs.declared.token.Token.TheVariants.{Name, Number, Word, Symbol}
use Rattle.pyr_lex.specs.declared.spanned_token.SpannedToken.{SpannedToken}
use Rattle.pyr_lex.specs.Word.{word_text}
use Rattle.pyr_lex.specs.Symbol.{symbol_text}

-- a name by its bytes, a number below 2 ^ 64, a word, or a symbol
abbrev pub IsToken : Token → Type 0
IsToken (Name bytes) = IsTrue (is_name bytes)
IsToken (Number n) = n < 2 ^ 64
IsToken (Word w) = ⊤
IsToken (Symbol s) = ⊤

-- each is a token
abbrev pub AreTokens : List Token → Type 0
AreTokens ts = AllByRecursion IsToken ts

-- the bytes that stand for a token
abbrev pub token_text : Token → List ℕ
token_text (Name bytes) = bytes
token_text (Number n) = decimal n
token_text (Word w) = word_text w
token_text (Symbol s) = symbol_text s

-- the tokens without their places
abbrev pub tokens_in : List SpannedToken → List Token
tokens_in = map (λ t. t.token)
