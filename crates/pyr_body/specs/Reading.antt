-- The reading functions: the expression at the front of tokens and the tokens behind it, and the
-- line that tokens are. Each computes what the spelling says; private contracts alone cite them.
use Rattle.std.specs.Prelude.{◌≡◌, ℕ, zero, suc, List, [], ◌∷◌, Option, Some, None, Result, Ok, Err}
use Rattle.pyr_num.specs.declared.arithmetic.Bin.{Bin as Operator}
use Rattle.pyr_num.specs.declared.name.Name.{Name}
use Rattle.pyr_lex.specs.declared.token.Token.{Token}
use Rattle.pyr_lex.specs.declared.token.Token.TheVariants as tokens
use Rattle.pyr_lex.specs.declared.word.Word.TheVariants as words
use Rattle.pyr_lex.specs.declared.symbol.Symbol.TheVariants as symbols
use Rattle.pyr_body.specs.declared.line_fault.LineFault.{LineFault}
use Rattle.pyr_body.specs.declared.line_fault.LineFault.TheVariants.{Text, Memory}
use Rattle.pyr_body.specs.declared.written_expr.WrittenExpr.{WrittenExpr as WrittenExprValue}
use Rattle.pyr_body.specs.Operator.{token_operator}
use Rattle.pyr_body.specs.WrittenSeen.{written_of}
use Rattle.pyr_body.specs.Written.{WrittenExpr, Num, Local, Frame, Get, Bin, Sel, WrittenLine, Set, Put, For, Done}

infixl 10 ◌>>=◌
abbrev pub ◌>>=◌ : {A B : Type 0} → Option A → (A → Option B) → Option B
None >>= f = None
(Some x) >>= f = f x

-- What a function returned, seen by view, is what reading gives, unless memory ran out.
abbrev pub Gives : {X Y : Type 0} → (X → Y) → Result X LineFault → Option Y → Type 0
Gives view (Ok x) read = read ≡ Some (view x)
Gives view (Err Text) read = read ≡ None
Gives view (Err Memory) read = Unit {0}
Gives view (Err fault) read = ⊥

-- an expression with the tokens behind it
abbrev pub Found : Type 0
Found = WrittenExpr × List Token

-- A function that moved to these tokens returned the expression that reading gives.
abbrev pub Finds : Result WrittenExprValue LineFault → List Token → Option Found → Type 0
Finds result rest read = Gives (λ e. (written_of e, rest)) result read

-- the tokens behind a symbol
abbrev pub after_paren : List Token → Option (List Token)
after_paren (tokens.Symbol symbols.ParenClose ∷ ts) = Some ts
after_paren ts = None

abbrev pub after_bracket : List Token → Option (List Token)
after_bracket (tokens.Symbol symbols.BracketClose ∷ ts) = Some ts
after_bracket ts = None

abbrev pub after_colon : List Token → Option (List Token)
after_colon (tokens.Symbol symbols.Colon ∷ ts) = Some ts
after_colon ts = None

abbrev pub after_equal : List Token → Option (List Token)
after_equal (tokens.Symbol symbols.Equal ∷ ts) = Some ts
after_equal ts = None

abbrev pub after_open : List Token → Option (List Token)
after_open (tokens.Symbol symbols.BracketOpen ∷ ts) = Some ts
after_open ts = None

-- go reads an expression of less depth
module _ (go : List Token → Option Found) where
  -- an expression that a symbol ends
  abbrev pub until_paren : List Token → Option Found
  until_paren ts = do
    x ← go ts
    rest ← after_paren x.1
    Some (x.0, rest)

  abbrev pub until_bracket : List Token → Option Found
  until_bracket ts = do
    x ← go ts
    rest ← after_bracket x.1
    Some (x.0, rest)

  abbrev pub until_colon : List Token → Option Found
  until_colon ts = do
    x ← go ts
    rest ← after_colon x.1
    Some (x.0, rest)

  -- behind a name
  abbrev pub named_from : Name → List Token → Option Found
  named_from name (tokens.Symbol symbols.BracketOpen ∷ ts) = do
    x ← until_bracket ts
    Some (Get name x.0, x.1)
  named_from name ts = Some (Local name, ts)

  -- behind the first operand
  abbrev pub apply_from : WrittenExpr → Operator → List Token → Option Found
  apply_from a operator ts = do
    b ← until_paren ts
    Some (Bin operator a b.0, b.1)

  abbrev pub select_from : WrittenExpr → List Token → Option Found
  select_from c ts = do
    a ← until_colon ts
    b ← until_paren a.1
    Some (Sel c a.0 b.0, b.1)

  abbrev pub rest_from : WrittenExpr → Option Operator → Token → List Token → Option Found
  rest_from a (Some operator) t ts = apply_from a operator ts
  rest_from a None (tokens.Symbol symbols.Question) ts = select_from a ts
  rest_from a None t ts = None

  abbrev pub operands_from : WrittenExpr → List Token → Option Found
  operands_from a [] = None
  operands_from a (t ∷ ts) = rest_from a (token_operator t) t ts

  -- behind an opening parenthesis
  abbrev pub group_from : List Token → Option Found
  group_from ts = do
    a ← go ts
    operands_from a.0 a.1

  abbrev pub expr_front : List Token → Option Found
  expr_front (tokens.Number word ∷ ts) = Some (Num word, ts)
  expr_front (tokens.Name name ∷ ts) = named_from name ts
  expr_front (tokens.Word words.Frame ∷ ts) = Some (Frame, ts)
  expr_front (tokens.Symbol symbols.ParenOpen ∷ ts) = group_from ts
  expr_front ts = None

-- the expression at the front, with fewer than so many brackets open at once
abbrev pub expr_at : ℕ → List Token → Option Found
expr_at zero ts = None
expr_at (suc n) ts = expr_front (expr_at n) ts

-- a name or a number at the front
abbrev pub name_at : List Token → Option (Name × List Token)
name_at (tokens.Name name ∷ ts) = Some (name, ts)
name_at ts = None

abbrev pub number_at : List Token → Option (ℕ × List Token)
number_at (tokens.Number n ∷ ts) = Some (n, ts)
number_at ts = None

-- a value, where no token is left
abbrev pub ended : {A : Type 0} → List Token → A → Option A
ended [] a = Some a
ended (t ∷ ts) a = None

abbrev pub for_at : List Token → Option WrittenLine
for_at ts = do
  name ← name_at ts
  count ← number_at name.1
  ended count.1 (For name.0 count.0)

module _ (depth : ℕ) where
  -- an expression to the end of the line
  abbrev pub last_expr : List Token → Option WrittenExpr
  last_expr ts = do
    e ← expr_at depth ts
    ended e.1 e.0

  abbrev pub set_at : List Token → Option WrittenLine
  set_at ts = do
    name ← name_at ts
    us ← after_equal name.1
    e ← last_expr us
    Some (Set name.0 e)

  abbrev pub put_at : List Token → Option WrittenLine
  put_at ts = do
    name ← name_at ts
    us ← after_open name.1
    index ← until_bracket (expr_at depth) us
    vs ← after_equal index.1
    e ← last_expr vs
    Some (Put name.0 index.0 e)

  -- the line, with fewer than so many brackets open at once
  abbrev pub line_at : List Token → Option WrittenLine
  line_at (tokens.Word words.Set ∷ ts) = set_at ts
  line_at (tokens.Word words.Put ∷ ts) = put_at ts
  line_at (tokens.Word words.For ∷ ts) = for_at ts
  line_at (tokens.Word words.Done ∷ ts) = ended ts Done
  line_at ts = None
