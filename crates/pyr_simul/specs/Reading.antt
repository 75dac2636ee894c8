-- Reading durations: what lines say, or the first fault of them, and the durations that come of it.
use Rattle.std.specs.Prelude.{◌≡◌, ⊤, ℕ, ◌+◌, ◌<◌, not, List, [], ◌∷◌, length, Option, Some, None, Result, Ok, Err, nat_lt, option_and_then, unwrap_or, is_some, if◌then◌else◌}
use Rattle.pyr_num.specs.declared.limits.Quantity.{Quantity}
use Rattle.pyr_num.specs.declared.limits.Quantity.TheVariants as quantities
use Rattle.pyr_num.specs.declared.limits.TheConstants.Limits.{TIME, DELAY}
use Rattle.pyr_num.specs.declared.name.Name.{Name}
use Rattle.pyr_lex.specs.Reading.{tokens_of}
use Rattle.pyr_graph.specs.System.{task_count, datum_count, cost_of, comm_of}
use Rattle.pyr_graphtext.specs.declared.program_fault.NameKind.TheVariants.{Unknown, Duplicate}
use Rattle.pyr_graphtext.specs.Lines.{lines}
use Rattle.pyr_graphtext.specs.Statements.{is_among}
use Rattle.pyr_graphtext.specs.Program.{ProgramParts, task_name, datum_name}
use Rattle.pyr_simul.specs.declared.duration_fault.DurationFault.{DurationFault}
use Rattle.pyr_simul.specs.declared.duration_fault.DurationFault.TheVariants.{BadText, Limit, Names, Memory}
use Rattle.pyr_simul.specs.declared.duration_line.DurationLine.{DurationLine}
use Rattle.pyr_simul.specs.declared.duration_line.DurationLine.TheVariants.{Blank, Time, Delay}
use Rattle.pyr_simul.specs.declared.durations.Durations.{Durations}
use Rattle.pyr_simul.specs.Durations.{time_of, delay_of}
use Rattle.pyr_simul.specs.Given.{said_by, time_given, delay_given}

-- What is wrong with a number that line n gives to a name: it is above its limit, the name is none
-- of these, or it has a number already. The first that holds is told.
abbrev pub number_fault : ℕ → Quantity → ℕ → List Name → Option ℕ → Name → ℕ → Option DurationFault
number_fault n which most names given name number =
    if nat_lt most number then Some (Limit n which)
    else if not (is_among names name) then Some (Names n Unknown name)
    else if is_some given then Some (Names n Duplicate name)
    else None

-- what is wrong with line n behind these lines, of which the newest stands first
abbrev pub line_fault : ProgramParts → List DurationLine → ℕ → DurationLine → Option DurationFault
line_fault p older n Blank = None
line_fault p older n (Time name time) =
    number_fault n quantities.Time TIME p.task_names (time_given older name) name time
line_fault p older n (Delay name delay) =
    number_fault n quantities.Delay DELAY p.datum_names (delay_given older name) name delay

-- the line without fault, or its fault
abbrev pub told : Option DurationFault → DurationLine → Result DurationLine DurationFault
told None line = Ok line
told (Some fault) line = Err fault

abbrev pub judged : ProgramParts → List DurationLine → ℕ → Option DurationLine
    → Result DurationLine DurationFault
judged p older n None = Err (BadText n)
judged p older n (Some line) = told (line_fault p older n line) line

-- what the bytes of line n say behind these lines, or its fault
unfoldable pub line_said : ProgramParts → List DurationLine → ℕ → List ℕ
    → Result DurationLine DurationFault
line_said p older n line = judged p older n (option_and_then said_by (tokens_of line))

-- what the lines from line n on say behind these, newest first, or the fault of the first faulty one
abbrev pub lines_said : ProgramParts → List DurationLine → ℕ → List (List ℕ)
    → Result (List DurationLine) DurationFault
lines_said p older n [] = Ok older
lines_said p older n (l ∷ ls) = elim (line_said p older n l) [
  | Ok line ↦ lines_said p (line ∷ older) (n + 1) ls
  | Err fault ↦ Err fault
]

-- what a text says whose first line has this number
abbrev pub text_said : ProgramParts → ℕ → List ℕ → Result (List DurationLine) DurationFault
text_said p first text = lines_said p [] first (lines text)

-- The durations that a text gives: no line is faulty, and each task has the time that is given to it,
-- else its cost, and each datum its delay, else its communication weight.
pub record AreRead (p : ProgramParts) (first : ℕ) (text : List ℕ) (d : Durations) : Type 0 where
  pub said : List DurationLine
  pub fine : text_said p first text ≡ Ok said
  pub times_full : length d.time ≡ task_count p.graph
  pub delays_full : length d.delay ≡ datum_count p.graph
  pub times : (t : ℕ) → t < task_count p.graph
      → time_of d t ≡ unwrap_or (time_given said (task_name p t)) (cost_of p.graph t)
  pub delays : (x : ℕ) → x < datum_count p.graph
      → delay_of d x ≡ unwrap_or (delay_given said (datum_name p x)) (comm_of p.graph x)

-- The fault is that of the first faulty line. Want of memory may come at any point.
abbrev pub IsFaultOf : ProgramParts → ℕ → List ℕ → DurationFault → Type 0
IsFaultOf p first text Memory = ⊤
IsFaultOf p first text fault = text_said p first text ≡ Err fault
