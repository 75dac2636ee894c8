-- What a line of a graph text says, and the tokens that say it.
use Rattle.std.specs.Prelude.{List, [], ◌∷◌, map}
use Rattle.pyr_lex.specs.declared.token.Token.{Token}
use Rattle.pyr_lex.specs.declared.token.Token.TheVariants as tokens
use Rattle.pyr_lex.specs.declared.word.Word.TheVariants as words
use Rattle.pyr_body.specs.Written.{WrittenLine}
use Rattle.pyr_body.specs.Spelling.{line_tokens}
use Rattle.pyr_graphtext.specs.declared.form.Form.{Form}
use Rattle.pyr_graphtext.specs.declared.form.Form.TheVariants as forms

-- a line: one without a token, one of the forms, or a line of a task's body
pub data Line : Type 0 where
  Blank : Line
  Plain : Form → Line
  Statement : WrittenLine → Line

-- the tokens of a line of one of the forms
abbrev pub plain_tokens : Form → List Token
plain_tokens (forms.Data name length comm) =
    tokens.Word words.Data
    ∷ (tokens.Name name ∷ (tokens.Number length ∷ (tokens.Number comm ∷ [])))
plain_tokens (forms.Task name cost) =
    tokens.Word words.Task ∷ (tokens.Name name ∷ (tokens.Number cost ∷ []))
plain_tokens (forms.Reads names) = tokens.Word words.Reads ∷ map tokens.Name names
plain_tokens (forms.Writes names) = tokens.Word words.Writes ∷ map tokens.Name names
plain_tokens forms.End = tokens.Word words.End ∷ []
plain_tokens (forms.Print name) = tokens.Word words.Print ∷ (tokens.Name name ∷ [])

-- the tokens of a line
abbrev pub tokens_of_line : Line → List Token
tokens_of_line Blank = []
tokens_of_line (Plain form) = plain_tokens form
tokens_of_line (Statement line) = line_tokens line
