-- The canonical text of a body.
use Rattle.std.specs.Prelude.{ℕ, List, [], ◌∷◌, ◌++◌}
use Rattle.std.specs.List.{flat_map, AllByRecursion}
use Rattle.pyr_num.specs.declared.name.Name.{Name}
use Rattle.pyr_lex.specs.declared.token.Token.{Token}
use Rattle.pyr_lex.specs.Token.{AreTokens}
use Rattle.pyr_lex.specs.Spacing.{canonical_line}
use Rattle.pyr_body.specs.Lines.{Line, lines_of}
use Rattle.pyr_body.specs.Parts.{BodyParts}
use Rattle.pyr_body.specs.Spelling.{line_tokens}
use Rattle.pyr_body.specs.Named.{line_with_names}

module _ (locals reads writes : List Name) where
  -- the tokens of a line with its names
  abbrev pub named_tokens : Line → List Token
  named_tokens line = line_tokens (line_with_names locals reads writes line)

  -- the lines written out, each with its line feed
  abbrev pub lines_text : List Line → List ℕ
  lines_text lines = flat_map (λ line. canonical_line (named_tokens line) ++ 10 ∷ []) lines

  -- what is written of each line are tokens
  abbrev pub AreLineTokens : List Line → Type 0
  AreLineTokens lines = AllByRecursion (λ line. AreTokens (named_tokens line)) lines

-- the canonical text of a body over data with these names
abbrev pub body_text : BodyParts → List Name → List Name → List ℕ
body_text body reads writes = lines_text body.locals reads writes (lines_of body.statements)
