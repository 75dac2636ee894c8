-- The tokens of the operators.
use Rattle.std.specs.Prelude.{Option, Some, None}
use Rattle.pyr_num.specs.declared.arithmetic.Bin.{Bin}
use Rattle.pyr_num.specs.declared.arithmetic.Bin.TheVariants.{Add, Sub, Mul, Div, Rem, And, Or, Xor, Shl, Shr, Min, Max, Eq, Lt}
use Rattle.pyr_lex.specs.declared.token.Token.{Token}
use Rattle.pyr_lex.specs.declared.token.Token.TheVariants.{Word, Symbol}
use Rattle.pyr_lex.specs.declared.word.Word.TheVariants as words
use Rattle.pyr_lex.specs.declared.symbol.Symbol.{Symbol as SymbolKind}
use Rattle.pyr_lex.specs.declared.symbol.Symbol.TheVariants as symbols

-- the token of an operator
abbrev pub operator_token : Bin → Token
operator_token Add = Symbol symbols.Plus
operator_token Sub = Symbol symbols.Minus
operator_token Mul = Symbol symbols.Star
operator_token Div = Symbol symbols.Slash
operator_token Rem = Symbol symbols.Percent
operator_token And = Symbol symbols.Amp
operator_token Or = Symbol symbols.Bar
operator_token Xor = Symbol symbols.Caret
operator_token Shl = Symbol symbols.ShiftLeft
operator_token Shr = Symbol symbols.ShiftRight
operator_token Min = Word words.Min
operator_token Max = Word words.Max
operator_token Eq = Symbol symbols.EqualEqual
operator_token Lt = Symbol symbols.Less

-- the operator that a symbol stands for
abbrev pub symbol_operator : SymbolKind → Option Bin
symbol_operator symbols.Plus = Some Add
symbol_operator symbols.Minus = Some Sub
symbol_operator symbols.Star = Some Mul
symbol_operator symbols.Slash = Some Div
symbol_operator symbols.Percent = Some Rem
symbol_operator symbols.Amp = Some And
symbol_operator symbols.Bar = Some Or
symbol_operator symbols.Caret = Some Xor
symbol_operator symbols.ShiftLeft = Some Shl
symbol_operator symbols.ShiftRight = Some Shr
symbol_operator symbols.EqualEqual = Some Eq
symbol_operator symbols.Less = Some Lt
symbol_operator symbol = None

-- the operator that a token stands for
abbrev pub token_operator : Token → Option Bin
token_operator (Symbol symbol) = symbol_operator symbol
token_operator (Word words.Min) = Some Min
token_operator (Word words.Max) = Some Max
token_operator token = None
