-- What lines of durations say: the durations that they give to the tasks and the data of a program.
use Rattle.std.specs.Prelude.{ℕ, List, [], ◌∷◌, Option, Some, None, bytes_eq, codes, if◌then◌else◌}
use Rattle.pyr_num.specs.declared.name.Name.{Name}
use Rattle.pyr_lex.specs.declared.token.Token.{Token}
use Rattle.pyr_lex.specs.declared.token.Token.TheVariants as tokens
use Rattle.pyr_simul.specs.declared.duration_line.DurationLine.{DurationLine}
use Rattle.pyr_simul.specs.declared.duration_line.DurationLine.TheVariants.{Blank, Time, Delay}

-- what three tokens say: `time` or `delay`, a name, a number
abbrev pub given_by : Token → Token → Token → Option DurationLine
given_by (tokens.Name keyword) (tokens.Name name) (tokens.Number number) =
    if bytes_eq keyword (codes "time") then Some (Time name number)
    else if bytes_eq keyword (codes "delay") then Some (Delay name number)
    else None
given_by _ _ _ = None

-- what the tokens of a line say, if they are those of a line of durations
abbrev pub said_by : List Token → Option DurationLine
said_by [] = Some Blank
said_by (keyword ∷ name ∷ number ∷ []) = given_by keyword name number
said_by _ = None

-- the time that these lines give to the task of this name, and the delay to the datum
abbrev pub time_given : List DurationLine → Name → Option ℕ
time_given [] name = None
time_given (Time other time ∷ older) name =
    if bytes_eq name other then Some time else time_given older name
time_given (_ ∷ older) name = time_given older name

abbrev pub delay_given : List DurationLine → Name → Option ℕ
delay_given [] name = None
delay_given (Delay other delay ∷ older) name =
    if bytes_eq name other then Some delay else delay_given older name
delay_given (_ ∷ older) name = delay_given older name
