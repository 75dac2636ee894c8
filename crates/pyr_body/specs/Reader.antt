-- What a reader of bodies answers.
use Rattle.std.specs.Prelude.{◌≡◌, ◌≢◌, ◌-◌, ◌<◌, ◌≤◌, List, [], length, Result, Ok, Err}
use Rattle.pyr_num.specs.declared.limits.Quantity.TheVariants.{Depth, Work}
use Rattle.pyr_num.specs.declared.limits.TheConstants.Limits.{DEPTH, WORK}
use Rattle.pyr_lex.specs.declared.token.Token.{Token}
use Rattle.pyr_lex.specs.Depth.{depth_of}
use Rattle.pyr_body.specs.declared.line_fault.LineFault.{LineFault}
use Rattle.pyr_body.specs.declared.line_fault.LineFault.TheVariants.{Text, Limit, Memory}
use Rattle.pyr_body.specs.Tree.{Statements}
use Rattle.pyr_body.specs.Size.{statements_work}
use Rattle.pyr_body.specs.Lines.{lines_of, loops_open}
use Rattle.pyr_body.specs.Parts.{BodyParts}
use Rattle.pyr_body.specs.Written.{WrittenLine}
use Rattle.pyr_body.specs.Spelling.{line_tokens}
use Rattle.pyr_body.specs.Taking.{LinesTaken, after_line}

-- What these tokens of a line come to behind the lines taken. The four cases exclude one another,
-- and one of them always holds.
pub record IsOutcome (taken : LinesTaken) (ts : List Token)
    (outcome : Result LinesTaken LineFault) : Type 0 where
  -- a line without a token is passed over
  pub empty : ts ≡ [] → outcome ≡ Ok taken
  -- too many brackets are open at once
  pub deep : DEPTH < depth_of ts → outcome ≡ Err (Limit Depth)
  -- they are a line
  pub line : (l : WrittenLine) → ts ≡ line_tokens l → depth_of ts ≤ DEPTH
      → outcome ≡ after_line taken l
  -- they are none
  pub no_line : ts ≢ [] → depth_of ts ≤ DEPTH → ((l : WrittenLine) → ts ≢ line_tokens l)
      → outcome ≡ Err Text

-- A reader is what its lines come to, or the refusal that it answers from then on. It goes on with
-- the outcome of the tokens, unless memory ran out.
abbrev pub GoesOn : Result LinesTaken LineFault → List Token → Result LinesTaken LineFault → Type 0
GoesOn (Err fault) ts new = new ≡ Err fault
GoesOn (Ok taken) ts (Err Memory) = Unit {0}
GoesOn (Ok taken) ts new = IsOutcome taken ts new

-- the body of these statements
abbrev pub body_taken : LinesTaken → Statements → BodyParts
body_taken taken statements = record {
  statements = statements;
  locals = taken.locals;
  reads = taken.reads;
  writes = length taken.slots - taken.reads;
}

-- What lines come to in the end.
pub record IsEnd (taken : LinesTaken) (result : Result BodyParts LineFault) : Type 0 where
  -- a loop is open
  pub open_loop : 0 < loops_open taken.lines → result ≡ Err Text
  -- else they are the lines of statements, whose work is the last thing to look at
  pub tree : loops_open taken.lines ≡ 0 → (ss : Statements) × (lines_of ss ≡ taken.lines)
  pub much_work : (ss : Statements) → lines_of ss ≡ taken.lines → WORK < statements_work ss
      → result ≡ Err (Limit Work)
  pub body : (ss : Statements) → lines_of ss ≡ taken.lines → statements_work ss ≤ WORK
      → result ≡ Ok (body_taken taken ss)

-- what a reader comes to in the end
abbrev pub EndsWith : Result LinesTaken LineFault → Result BodyParts LineFault → Type 0
EndsWith (Err fault) result = result ≡ Err fault
EndsWith (Ok taken) result = IsEnd taken result
