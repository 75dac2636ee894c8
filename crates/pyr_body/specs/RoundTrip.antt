-- A body's canonical text is read as that body again.
use Rattle.std.specs.Prelude.{◌≡◌, ℕ, ◌+◌, ◌≤◌, List, [], ◌∷◌, ◌++◌, map, Some, Ok}
use Rattle.pyr_num.specs.declared.limits.TheConstants.Limits.{ALL_NODES}
use Rattle.pyr_num.specs.declared.name.Name.{Name}
use Rattle.pyr_lex.specs.declared.token.Token.{Token}
use Rattle.pyr_lex.specs.Spacing.{canonical_line}
use Rattle.pyr_lex.specs.Reading.{tokens_of}
use Rattle.pyr_body.specs.Size.{statements_nodes}
use Rattle.pyr_body.specs.Lines.{lines_of}
use Rattle.pyr_body.specs.Parts.{BodyParts}
use Rattle.pyr_body.specs.Body.{AreDistinct}
use Rattle.pyr_body.specs.Printed.{named_tokens}
use Rattle.pyr_body.specs.Taking.{LinesTaken, no_lines}
use Rattle.pyr_body.specs.Reader.{IsOutcome, IsEnd}

-- the canonical lines of a body, without their line feeds
abbrev pub line_texts : BodyParts → List Name → List Name → List (List ℕ)
line_texts body reads writes =
    map (λ line. canonical_line (named_tokens body.locals reads writes line))
    (lines_of body.statements)

-- the texts of lines are read one after another, and each is taken
abbrev pub AreRead : LinesTaken → List (List ℕ) → LinesTaken → Type 0
AreRead taken [] last = taken ≡ last
AreRead taken (text ∷ rest) last =
    (ts : List Token) × (tokens_of text ≡ Some ts)
    × ((next : LinesTaken) × IsOutcome taken ts (Ok next) × AreRead next rest last)

-- Where all names differ and there is room for the nodes, a reader on these names takes each line
-- of the body, and has the body in the end.
abbrev pub IsReadAgain : BodyParts → List Name → List Name → Type 0
IsReadAgain body reads writes = (nodes_before : ℕ) → AreDistinct (reads ++ writes)
    → nodes_before + statements_nodes body.statements ≤ ALL_NODES
    → (last : LinesTaken)
    × AreRead (no_lines reads writes nodes_before) (line_texts body reads writes) last
    × IsEnd last (Ok body)
