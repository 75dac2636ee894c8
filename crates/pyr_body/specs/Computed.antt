-- What a line of tokens comes to, computed: the depth, the form, and then the line.
use Rattle.std.specs.Prelude.{◌+◌, List, [], ◌∷◌, Option, Some, None, Result, Ok, Err, nat_lt, if◌then◌else◌}
use Rattle.pyr_num.specs.declared.limits.Quantity.TheVariants.{Depth}
use Rattle.pyr_num.specs.declared.limits.TheConstants.Limits.{DEPTH}
use Rattle.pyr_lex.specs.declared.token.Token.{Token}
use Rattle.pyr_lex.specs.Depth.{depth_of}
use Rattle.pyr_body.specs.declared.line_fault.LineFault.{LineFault}
use Rattle.pyr_body.specs.declared.line_fault.LineFault.TheVariants.{Text}
use Rattle.pyr_body.specs.Written.{WrittenLine}
use Rattle.pyr_body.specs.Reading.{line_at}
use Rattle.pyr_body.specs.Taking.{LinesTaken, limit, after_line}

-- behind a line, if the tokens are one
abbrev pub after_form : LinesTaken → Option WrittenLine → Result LinesTaken LineFault
after_form taken None = Err Text
after_form taken (Some l) = after_line taken l

-- behind the tokens of a line
abbrev pub after_tokens : LinesTaken → List Token → Result LinesTaken LineFault
after_tokens taken [] = Ok taken
after_tokens taken (t ∷ ts) =
    if nat_lt DEPTH (depth_of (t ∷ ts)) then Err (limit Depth)
    else after_form taken (line_at (DEPTH + 1) (t ∷ ts))
