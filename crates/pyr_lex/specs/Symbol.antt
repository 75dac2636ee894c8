-- The symbols as they are written.
use Rattle.std.specs.Prelude.{List, [], ◌∷◌, ℕ, nat_eq, codes, Option, find}
use Rattle.std.specs.List.{starts_with}
use Rattle.pyr_lex.specs.declared.symbol.Symbol.{Symbol}
use Rattle.pyr_lex.specs.declared.symbol.Symbol.TheVariants.{ParenOpen, ParenClose, BracketOpen, BracketClose, Plus, Minus, Star, Slash, Percent, Amp, Bar, Caret, ShiftLeft, ShiftRight, Less, EqualEqual, Equal, Question, Colon}

-- the text of a symbol
abbrev pub symbol_text : Symbol → List ℕ
symbol_text ParenOpen = codes "("
symbol_text ParenClose = codes ")"
symbol_text BracketOpen = codes "["
symbol_text BracketClose = codes "]"
symbol_text Plus = codes "+"
symbol_text Minus = codes "-"
symbol_text Star = codes "*"
symbol_text Slash = codes "/"
symbol_text Percent = codes "%"
symbol_text Amp = codes "&"
symbol_text Bar = codes "|"
symbol_text Caret = codes "^"
symbol_text ShiftLeft = codes "<<"
symbol_text ShiftRight = codes ">>"
symbol_text Less = codes "<"
symbol_text EqualEqual = codes "=="
symbol_text Equal = codes "="
symbol_text Question = codes "?"
symbol_text Colon = codes ":"

-- all symbols, each before the shorter one that it begins with
abbrev pub symbols : List Symbol
symbols =
    ParenOpen ∷ ParenClose ∷ BracketOpen ∷ BracketClose ∷ Plus ∷ Minus ∷ Star ∷ Slash ∷ Percent
    ∷ Amp ∷ Bar ∷ Caret ∷ ShiftLeft ∷ ShiftRight ∷ Less ∷ EqualEqual ∷ Equal ∷ Question ∷ Colon ∷ []

-- the longest symbol that the bytes begin with, if they begin with one
abbrev pub front_symbol : List ℕ → Option Symbol
front_symbol bytes = find (λ s. starts_with nat_eq bytes (symbol_text s)) symbols
