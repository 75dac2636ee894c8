-- The laws of tokens.
use Rattle.std.specs.Prelude.{◌≡◌, ◌↔◌, ◌==◌, ℕ, Bool, not, List, map, Some, IsTrue}
use Rattle.std.specs.List.{list_all}
use Rattle.pyr_num.specs.Name.{reserved}
use Rattle.pyr_lex.specs.declared.token.Token.{Token}
use Rattle.pyr_lex.specs.declared.spanned_token.SpannedToken.{SpannedToken}
use Rattle.pyr_lex.specs.Word.{words, word_text}
use Rattle.pyr_lex.specs.Token.{AreTokens}
use Rattle.pyr_lex.specs.Line.{AreTokensOf}
use Rattle.pyr_lex.specs.Reading.{spanned_tokens_of, tokens_of}
use Rattle.pyr_lex.specs.Spacing.{line_text, never_tight, canonical_line, PartsTokens}

-- A line has one list of tokens at most.
abbrev pub ReadingIsUnique : Type 0
ReadingIsUnique = (line : List ℕ) (ts us : List SpannedToken)
    → AreTokensOf line ts → AreTokensOf line us → ts ≡ us

-- The value `spanned_tokens_of line` is the tokens of the line.
abbrev pub ReadingIsExact : Type 0
ReadingIsExact = (line : List ℕ) (ts : List SpannedToken)
    → (spanned_tokens_of line ≡ Some ts) ↔ AreTokensOf line ts

-- The words are those that a name may not be.
abbrev pub WordsAreReserved : Type 0
WordsAreReserved = map word_text words ≡ reserved

-- Tokens that are written out are read again.
pub record WrittenIsRead : Type 0 where
  -- with one space between each two
  pub parted : (ts : List Token) → AreTokens ts → tokens_of (line_text never_tight ts) ≡ Some ts
  -- with the spacing of canonical texts
  pub canonical : (ts : List Token) → AreTokens ts → tokens_of (canonical_line ts) ≡ Some ts
  -- with any spacing that parts them
  pub spaced : (tight : Token → Token → Bool) → PartsTokens tight → (ts : List Token) → AreTokens ts
      → tokens_of (line_text tight ts) ≡ Some ts
  -- and they hold no line feed
  pub one_line : (tight : Token → Token → Bool) (ts : List Token) → AreTokens ts
      → IsTrue (list_all (λ b. not (b == 10)) (line_text tight ts))
