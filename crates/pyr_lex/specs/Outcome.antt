-- What the lexer answers of a line.
use Rattle.std.specs.Prelude.{◌≡◌, ℕ, List, Option, Some, None, Result, Ok, Err, ⊤}
use Rattle.std.specs.Global.{Vec}
use Rattle.pyr_lex.specs.declared.spanned_token.SpannedToken.{SpannedToken}
use Rattle.pyr_lex.specs.declared.lex_fault.LexFault.{LexFault}
use Rattle.pyr_lex.specs.declared.lex_fault.LexFault.TheVariants.{BadText, Memory}
use Rattle.pyr_lex.specs.Line.{HasTokens}

-- The line of this number has no tokens, unless memory ran out.
abbrev pub IsRefused : List ℕ → ℕ → LexFault → Type 0
IsRefused line number (BadText told) = (told ≡ number) × ¬ HasTokens line
IsRefused line number Memory = ⊤

-- The answer is this value, unless memory ran out.
abbrev pub Gives : Option (List SpannedToken) → Result (Vec SpannedToken) LexFault → Type 0
Gives read (Ok tokens) = read ≡ Some tokens.items
Gives read (Err (BadText told)) = read ≡ None
Gives read (Err Memory) = ⊤
