use Rattle.pyr_calm.specs.Seats.{AreTold}
use Rattle.pyr_calm.proofs.capacities.lengths.Given as goal

abbrev pub invariant-loop-q : goal.invariant-loop-q
invariant-loop-q l = AreTold l.processors l.passages l.q l.rows.items
