use Rattle.std.proofs.Common.{◌≡◌, drop}
use Rattle.pyr_body.specs.Names.{index_from, index_of}
use Rattle.pyr_body.proofs.naming.index_of.Given as goal

abbrev pub invariant-loop-i : goal.invariant-loop-i
invariant-loop-i l = index_from l.i l.name (drop l.i l.names) ≡ index_of l.name l.names
