-- The number of each status.
use Rattle.std.specs.Prelude.{ℕ}
use Rattle.pyr_top.specs.declared.status.Status.{Status}
use Rattle.pyr_top.specs.declared.status.Status.TheVariants.{Ok as Fine, Usage, Source, Sink, Memory, Text, Limit, Names, Cycle, Law, Stuck, Leftover}

-- what the program exits with
abbrev pub code_of : Status → ℕ
code_of Fine = 0
code_of Usage = 2
code_of Source = 3
code_of Sink = 4
code_of Memory = 5
code_of Text = 6
code_of Limit = 7
code_of Names = 8
code_of Cycle = 9
code_of Law = 10
code_of Stuck = 11
code_of Leftover = 12
