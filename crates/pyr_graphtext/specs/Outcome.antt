-- What a line of bytes comes to, behind the earlier lines: what it says, or its fault.
use Rattle.std.specs.Prelude.{◌≡◌, ◌≢◌, ℕ, ◌<◌, ◌≤◌, Bool, true, false, not, List, [], ◌∷◌, Option, Some, None, Result, Ok, Err, IsTrue}
use Rattle.pyr_num.specs.declared.limits.Quantity.TheVariants.{Depth}
use Rattle.pyr_num.specs.declared.limits.TheConstants.Limits.{DEPTH}
use Rattle.pyr_lex.specs.declared.token.Token.{Token}
use Rattle.pyr_lex.specs.declared.token.Token.TheVariants as tokens
use Rattle.pyr_lex.specs.declared.word.Word.TheVariants as words
use Rattle.pyr_lex.specs.Depth.{depth_of}
use Rattle.pyr_lex.specs.Reading.{tokens_of}
use Rattle.pyr_graphtext.specs.declared.line_fault.LineFault.{LineFault}
use Rattle.pyr_graphtext.specs.declared.line_fault.LineFault.TheVariants.{Text, Limit}
use Rattle.pyr_graphtext.specs.Line.{Line, tokens_of_line}
use Rattle.pyr_graphtext.specs.Earlier.{stage_of}
use Rattle.pyr_graphtext.specs.Faults.{is_outside, fault_behind}

-- A line with this first token is a line of a body, where it stands outside a task or not: one that
-- begins with `set`, `put`, `for` or `done`, and within a task every line that doesn't begin with
-- `reads`, `writes` or `end`.
abbrev pub begins_statement : Bool → Token → Bool
begins_statement outside (tokens.Word words.Set) = true
begins_statement outside (tokens.Word words.Put) = true
begins_statement outside (tokens.Word words.For) = true
begins_statement outside (tokens.Word words.Done) = true
begins_statement outside (tokens.Word words.Reads) = false
begins_statement outside (tokens.Word words.Writes) = false
begins_statement outside (tokens.Word words.End) = false
begins_statement outside _ = not outside

abbrev pub is_statement : Bool → List Token → Bool
is_statement outside [] = false
is_statement outside (t ∷ ts) = begins_statement outside t

-- no limit on the depth is passed: a line of a body has one
abbrev pub IsShallow : Bool → List Token → Type 0
IsShallow outside ts = IsTrue (is_statement outside ts) → depth_of ts ≤ DEPTH

-- the line without fault, or its fault
abbrev pub told : Option LineFault → Line → Result Line LineFault
told None line = Ok line
told (Some fault) line = Err fault

-- What tokens come to behind these lines. The three cases exclude one another, and one of them
-- always holds.
pub record IsTokensOutcome (older : List Line) (ts : List Token) (outcome : Result Line LineFault)
    : Type 0 where
  -- too many brackets of a line of a body are open at once
  pub deep : IsTrue (is_statement (is_outside (stage_of older)) ts) → DEPTH < depth_of ts
      → outcome ≡ Err (Limit Depth)
  -- they are the tokens of a line
  pub line : IsShallow (is_outside (stage_of older)) ts
      → (l : Line) → ts ≡ tokens_of_line l → outcome ≡ told (fault_behind older l) l
  -- they are those of none
  pub no_line : IsShallow (is_outside (stage_of older)) ts
      → ((l : Line) → ts ≢ tokens_of_line l) → outcome ≡ Err Text

-- What a line comes to behind these lines: it has no tokens, or these.
pub record IsOutcome (older : List Line) (line : List ℕ) (outcome : Result Line LineFault)
    : Type 0 where
  pub no_tokens : tokens_of line ≡ None → outcome ≡ Err Text
  pub tokens : (ts : List Token) → tokens_of line ≡ Some ts → IsTokensOutcome older ts outcome
