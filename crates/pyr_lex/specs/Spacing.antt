-- Tokens written out, with one space or nothing between them.
use Rattle.std.specs.Prelude.{ℕ, Bool, false, true, ◌||◌, if◌then◌else◌, Option, Some, None, List, [], ◌∷◌, ◌++◌, IsTrue}
use Rattle.pyr_lex.specs.declared.token.Token.{Token}
use Rattle.pyr_lex.specs.declared.token.Token.TheVariants.{Symbol}
use Rattle.pyr_lex.specs.declared.symbol.Symbol.TheVariants.{ParenOpen, ParenClose, BracketOpen, BracketClose}
use Rattle.pyr_lex.specs.Token.{IsToken, token_text}
use Rattle.pyr_lex.specs.Line.{ends_before}

-- nothing between two tokens that are tight, else one space
abbrev pub gap : Bool → List ℕ
gap tight = if tight then [] else 32 ∷ []

-- what stands behind a token: the others, each with its gap before it
abbrev pub text_behind : (Token → Token → Bool) → Token → List Token → List ℕ
text_behind tight t [] = []
text_behind tight t (u ∷ us) = gap (tight t u) ++ token_text u ++ text_behind tight u us

-- the tokens written out
abbrev pub line_text : (Token → Token → Bool) → List Token → List ℕ
line_text tight [] = []
line_text tight (t ∷ ts) = token_text t ++ text_behind tight t ts

-- one space between each two tokens
abbrev pub never_tight : Token → Token → Bool
never_tight t u = false

-- no space stands behind this token
abbrev pub is_tight_behind : Token → Bool
is_tight_behind (Symbol ParenOpen) = true
is_tight_behind (Symbol BracketOpen) = true
is_tight_behind t = false

-- no space stands before this token
abbrev pub is_tight_before : Token → Bool
is_tight_before (Symbol ParenClose) = true
is_tight_before (Symbol BracketOpen) = true
is_tight_before (Symbol BracketClose) = true
is_tight_before t = false

-- the canonical spacing: an opening bracket touches what follows, and `)`, `[` and `]` what precedes
abbrev pub is_tight : Token → Token → Bool
is_tight t u = is_tight_behind t || is_tight_before u

-- what stands before a token: nothing at the front of the line, else the gap behind the last token
abbrev pub gap_before : Option Token → Token → List ℕ
gap_before None u = []
gap_before (Some t) u = gap (is_tight t u)

-- the canonical text of a line with these tokens, without its line feed
abbrev pub canonical_line : List Token → List ℕ
canonical_line ts = line_text is_tight ts

-- Where two tokens are tight, the first ends before the second.
abbrev pub PartsTokens : (Token → Token → Bool) → Type 0
PartsTokens tight = (t u : Token) → IsToken t → IsToken u → IsTrue (tight t u)
    → IsTrue (ends_before t (token_text u))
