-- The laws of the lines of bodies.
use Rattle.std.specs.Prelude.{◌≡◌, ◌≢◌, ◌⊎◌, ◌≤◌, ℕ, List, [], ◌∷◌, map, Result, Ok}
use Rattle.pyr_num.specs.declared.limits.TheConstants.Limits.{DEPTH}
use Rattle.pyr_num.specs.declared.name.Name.{Name}
use Rattle.pyr_lex.specs.declared.token.Token.{Token}
use Rattle.pyr_lex.specs.Depth.{depth_of}
use Rattle.pyr_body.specs.declared.line_fault.LineFault.{LineFault}
use Rattle.pyr_body.specs.Tree.{Statements}
use Rattle.pyr_body.specs.Lines.{lines_of}
use Rattle.pyr_body.specs.Written.{WrittenLine}
use Rattle.pyr_body.specs.Spelling.{line_tokens}
use Rattle.pyr_body.specs.Names.{◌>>=◌}
use Rattle.pyr_body.specs.Named.{line_with_names}
use Rattle.pyr_body.specs.Taking.{LinesTaken, no_lines, after_line}

-- Tokens are those of one line at most.
abbrev pub LineIsUnique : Type 0
LineIsUnique = (a b : WrittenLine) → line_tokens a ≡ line_tokens b → a ≡ b

-- Tokens are those of a line or of none.
abbrev pub LineIsDecided : Type 0
LineIsDecided = (ts : List Token) → depth_of ts ≤ DEPTH
    → ((l : WrittenLine) × (ts ≡ line_tokens l)) ⊎ ((l : WrittenLine) → ts ≢ line_tokens l)

-- Lines are those of one tree at most.
abbrev pub LinesAreOneTree : Type 0
LinesAreOneTree = (a b : Statements) → lines_of a ≡ lines_of b → a ≡ b

-- what lines come to, where each is taken
abbrev pub after_all : LinesTaken → List WrittenLine → Result LinesTaken LineFault
after_all taken [] = Ok taken
after_all taken (l ∷ ls) = after_line taken l >>= λ (next : LinesTaken). after_all next ls

-- Lines that were taken are, with their names put back, the lines that were written.
abbrev pub LinesTakenStand : Type 0
LinesTakenStand = (reads writes : List Name) (nodes_before : ℕ)
    → (ls : List WrittenLine) (last : LinesTaken)
    → after_all (no_lines reads writes nodes_before) ls ≡ Ok last
    → map (line_with_names last.locals reads writes) last.lines ≡ ls
