use Rattle.std.proofs.Common.{◌≤◌, length}
use Rattle.pyr_simul.specs.Taking.{IsFull}
use Rattle.pyr_simul.proofs.ReaderLemmas.{HasRead}
use Rattle.pyr_simul.proofs.reading.take_lines.Given as goal

-- the lines before what is left were taken
abbrev pub invariant-loop-rest : goal.invariant-loop-rest
invariant-loop-rest l = record {
  short : length l.rest ≤ length l.text;
  full : IsFull l.reader;
  read : HasRead l.initial.reader l.first l.text l.reader l.number l.rest;
}

abbrev pub decreases-loop-rest : goal.decreases-loop-rest
decreases-loop-rest l = length l.rest
