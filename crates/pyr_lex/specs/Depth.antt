-- How deep the brackets of a line are.
use Rattle.std.specs.Prelude.{ℕ, ◌+◌, ◌-◌, max, List, [], ◌∷◌}
use Rattle.pyr_lex.specs.declared.token.Token.{Token}
use Rattle.pyr_lex.specs.declared.token.Token.TheVariants.{Symbol}
use Rattle.pyr_lex.specs.declared.symbol.Symbol.TheVariants.{ParenOpen, ParenClose, BracketOpen, BracketClose}

-- The counter of open brackets behind a token: an opening bracket raises it by one, and a closing
-- one lowers it by one, but never below 0.
abbrev pub count_after : Token → ℕ → ℕ
count_after (Symbol ParenOpen) count = count + 1
count_after (Symbol BracketOpen) count = count + 1
count_after (Symbol ParenClose) count = count - 1
count_after (Symbol BracketClose) count = count - 1
count_after t count = count

-- the greatest value of the counter from here on
abbrev pub depth_from : ℕ → List Token → ℕ
depth_from count [] = count
depth_from count (t ∷ ts) = max count (depth_from (count_after t count) ts)

-- the greatest value of the counter, which starts at 0
abbrev pub depth_of : List Token → ℕ
depth_of ts = depth_from 0 ts
