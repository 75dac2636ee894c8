use Rattle.pyr_graph.proofs.RepeatLemmas.{IsSearched}
use Rattle.pyr_graph.proofs.repeats.repeated.Given as goal

-- the list is searched from this place to its end
abbrev pub invariant-loop-at : goal.invariant-loop-at
invariant-loop-at l = IsSearched l.list l.at l.later l.found
