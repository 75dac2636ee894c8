use Rattle.pyr_graphtext.proofs.ListedNames.{IsChecked}
use Rattle.pyr_graphtext.proofs.names.check_names.Given as goal

-- the names from this place on are tested
abbrev pub invariant-loop-at : goal.invariant-loop-at
invariant-loop-at l = IsChecked l.datums l.others l.names l.at l.later l.fault
