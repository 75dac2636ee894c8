-- The tokens of a line as a value that computes, for the definitions of the crates above. What they
-- are is said in `Line`, and that both agree is the law `ReadingIsExact`.
use Rattle.std.specs.Prelude.{ℕ, zero, suc, ◌+◌, ◌-◌, ◌==◌, nat_lt, List, [], ◌∷◌, length, take, Option, Some, None, option_map, option_and_then, if◌then◌else◌}
use Rattle.std.specs.Option.{option_or}
use Rattle.std.specs.List.{prefix_len}
use Rattle.pyr_num.specs.Name.{is_part, is_name}
use Rattle.pyr_decimal.specs.Number.{number_of}
use Rattle.pyr_lex.specs.declared.token.Token.{Token}
use Rattle.pyr_lex.specs.declared.token.Token.TheVariants.{Name, Number, Word, Symbol}
use Rattle.pyr_lex.specs.declared.spanned_token.SpannedToken.{SpannedToken}
use Rattle.pyr_lex.specs.Word.{word_of}
use Rattle.pyr_lex.specs.Symbol.{symbol_text, front_symbol}
use Rattle.pyr_lex.specs.Token.{tokens_in}
use Rattle.pyr_lex.specs.Line.{is_blank}

-- the name with this text, if it is one
abbrev pub name_token : List ℕ → Option Token
name_token text = if is_name text then Some (Name text) else None

-- the name, the number or the word that has this text, if one has it
unfoldable pub run_token : List ℕ → Option Token
run_token text =
    option_or (name_token text)
    (option_or (option_map Number (number_of text)) (option_map Word (word_of text)))

-- The token that the bytes begin with, if they begin with one, and its length. Where they begin
-- with a letter, a digit or `_`, it takes all of these that follow.
unfoldable pub front_token : List ℕ → Option (Token × ℕ)
front_token bytes =
    let run = prefix_len is_part bytes in
    if nat_lt 0 run
    then option_map (λ t. (t, run)) (run_token (take run bytes))
    else option_map (λ s. (Symbol s, length (symbol_text s))) (front_symbol bytes)

-- a token of this length at a place, before the others
abbrev pub with_token : ℕ → Token × ℕ → List SpannedToken → List SpannedToken
with_token at t others = record { token = t.0; from = at; to = at + t.1 } ∷ others

-- the tokens of the bytes from a place of the line on, of which so many belong to the token before
unfoldable pub tokens_from : ℕ → ℕ → List ℕ → Option (List SpannedToken)
tokens_from taken at [] = Some []
tokens_from (suc taken) at (b ∷ bs) = tokens_from taken (at + 1) bs
tokens_from zero at (b ∷ bs) =
    if b == 35 then Some []
    else if is_blank b then tokens_from 0 (at + 1) bs
    else option_and_then (λ t. option_map (with_token at t) (tokens_from (t.1 - 1) (at + 1) bs))
    (front_token (b ∷ bs))

-- the tokens of the line with their places, if it has tokens
unfoldable pub spanned_tokens_of : List ℕ → Option (List SpannedToken)
spanned_tokens_of line = tokens_from 0 0 line

-- the tokens of the line, if it has tokens
abbrev pub tokens_of : List ℕ → Option (List Token)
tokens_of line = option_map tokens_in (spanned_tokens_of line)
