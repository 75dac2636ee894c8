-- The tokens of expressions and lines.
use Rattle.std.specs.Prelude.{◌≡◌, ◌≢◌, ⊤, List, [], ◌∷◌, ◌++◌}
use Rattle.pyr_lex.specs.declared.token.Token.{Token}
use Rattle.pyr_lex.specs.declared.token.Token.TheVariants as tokens
use Rattle.pyr_lex.specs.declared.word.Word.TheVariants as words
use Rattle.pyr_lex.specs.declared.symbol.Symbol.TheVariants as symbols
use Rattle.pyr_body.specs.Written.{WrittenExpr, Num, Local, Frame, Get, Bin, Sel, WrittenLine, Set, Put, For, Done}
use Rattle.pyr_body.specs.Operator.{operator_token}

abbrev pub paren_open : Token
paren_open = tokens.Symbol symbols.ParenOpen

abbrev pub paren_close : Token
paren_close = tokens.Symbol symbols.ParenClose

abbrev pub bracket_open : Token
bracket_open = tokens.Symbol symbols.BracketOpen

abbrev pub bracket_close : Token
bracket_close = tokens.Symbol symbols.BracketClose

abbrev pub question : Token
question = tokens.Symbol symbols.Question

abbrev pub colon : Token
colon = tokens.Symbol symbols.Colon

abbrev pub equal : Token
equal = tokens.Symbol symbols.Equal

-- the tokens of an expression
abbrev pub expr_tokens : WrittenExpr → List Token
expr_tokens (Num word) = tokens.Number word ∷ []
expr_tokens (Local name) = tokens.Name name ∷ []
expr_tokens Frame = tokens.Word words.Frame ∷ []
expr_tokens (Get name index) =
    tokens.Name name ∷ (bracket_open ∷ (expr_tokens index ++ (bracket_close ∷ [])))
expr_tokens (Bin operator a b) =
    paren_open
    ∷ (expr_tokens a ++ (operator_token operator ∷ (expr_tokens b ++ (paren_close ∷ []))))
expr_tokens (Sel c a b) =
    paren_open
    ∷ (expr_tokens c ++ (question
    ∷ (expr_tokens a ++ (colon ∷ (expr_tokens b ++ (paren_close ∷ []))))))

-- the tokens of a line
abbrev pub line_tokens : WrittenLine → List Token
line_tokens (Set name e) = tokens.Word words.Set ∷ (tokens.Name name ∷ (equal ∷ expr_tokens e))
line_tokens (Put name index e) =
    tokens.Word words.Put ∷ (tokens.Name name
    ∷ (bracket_open ∷ (expr_tokens index ++ (bracket_close ∷ (equal ∷ expr_tokens e)))))
line_tokens (For name count) =
    tokens.Word words.For ∷ (tokens.Name name ∷ (tokens.Number count ∷ []))
line_tokens Done = tokens.Word words.Done ∷ []

-- no opening bracket comes first
abbrev pub IsNotOpened : List Token → Type 0
IsNotOpened [] = ⊤
IsNotOpened (t ∷ rest) = t ≢ bracket_open

-- the expression ends where the rest begins: a local isn't followed by an opening bracket
abbrev pub EndsBefore : WrittenExpr → List Token → Type 0
EndsBefore (Num word) rest = ⊤
EndsBefore (Local name) rest = IsNotOpened rest
EndsBefore Frame rest = ⊤
EndsBefore (Get name index) rest = ⊤
EndsBefore (Bin operator a b) rest = ⊤
EndsBefore (Sel c a b) rest = ⊤

-- Tokens are those of one expression at most, also where others follow.
abbrev pub IsUniquelyReadable : Type 0
IsUniquelyReadable = (a b : WrittenExpr) (x y : List Token) → EndsBefore a x → EndsBefore b y
    → expr_tokens a ++ x ≡ expr_tokens b ++ y → (a ≡ b) × (x ≡ y)
