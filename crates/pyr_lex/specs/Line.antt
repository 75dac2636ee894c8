-- What it means that these are the tokens of a line.
use Rattle.std.specs.Prelude.{ℕ, ◌<◌, ◌≤◌, ◌≡◌, Bool, true, not, ◌&&◌, ◌||◌, ◌==◌, IsTrue, List, [], ◌∷◌, ◌++◌, length, drop, slice_range, bytes_eq}
use Rattle.std.specs.List.{list_all, list_any}
use Rattle.pyr_num.specs.Name.{is_part}
use Rattle.pyr_lex.specs.declared.token.Token.{Token}
use Rattle.pyr_lex.specs.declared.token.Token.TheVariants.{Name, Number, Word, Symbol}
use Rattle.pyr_lex.specs.declared.spanned_token.SpannedToken.{SpannedToken}
use Rattle.pyr_lex.specs.Symbol.{symbols, symbol_text}
use Rattle.pyr_lex.specs.Token.{IsToken, token_text}

-- a space, a tab or a carriage return
abbrev pub is_blank : ℕ → Bool
is_blank b = b == 32 || b == 9 || b == 13

-- blanks alone, or blanks and then a comment: `#` and any bytes
abbrev pub has_no_token : List ℕ → Bool
has_no_token [] = true
has_no_token (b ∷ bs) = b == 35 || (is_blank b && has_no_token bs)

-- A byte right behind the token would belong to it: a letter, a digit or `_` to a name, a number or
-- a word; to a symbol one with which it is a longer symbol.
abbrev pub belongs : Token → ℕ → Bool
belongs (Name bytes) b = is_part b
belongs (Number n) b = is_part b
belongs (Word w) b = is_part b
belongs (Symbol s) b =
    list_any (λ longer. bytes_eq (symbol_text longer) (symbol_text s ++ b ∷ [])) symbols

-- the token ends where these bytes begin
abbrev pub ends_before : Token → List ℕ → Bool
ends_before t [] = true
ends_before t (b ∷ bs) = not (belongs t b)

-- The next token from a place of the line on.
pub record IsNextToken (line : List ℕ) (at : ℕ) (t : SpannedToken) : Type 0 where
  -- it is a token
  pub token : IsToken t.token
  -- behind the place, and blanks alone between
  pub behind : at ≤ t.from
  pub blanks : IsTrue (list_all is_blank (slice_range line at t.from))
  -- its text is the slice of its span
  pub some : t.from < t.to
  pub within : t.to ≤ length line
  pub text : slice_range line t.from t.to ≡ token_text t.token
  -- it is as long as it can be
  pub longest : IsTrue (ends_before t.token (drop t.to line))

-- these are the tokens from a place of the line on, one behind the other
abbrev pub AreTokensFrom : List ℕ → ℕ → List SpannedToken → Type 0
AreTokensFrom line at [] = IsTrue (has_no_token (drop at line))
AreTokensFrom line at (t ∷ ts) = IsNextToken line at t × AreTokensFrom line t.to ts

-- these are the tokens of the line
abbrev pub AreTokensOf : List ℕ → List SpannedToken → Type 0
AreTokensOf line ts = AreTokensFrom line 0 ts

-- nothing stands in the line but tokens, blanks and perhaps a comment behind them
abbrev pub HasTokens : List ℕ → Type 0
HasTokens line = (ts : List SpannedToken) × AreTokensOf line ts
