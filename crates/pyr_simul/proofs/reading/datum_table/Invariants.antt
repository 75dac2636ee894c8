use Rattle.std.proofs.Common.{◌≡◌, take}
use Rattle.pyr_simul.proofs.reading.datum_table.Given as goal

-- the names before this number
abbrev pub invariant-loop-datum : goal.invariant-loop-datum
invariant-loop-datum l = l.table ≡ take l.datum l.program.datum_names
