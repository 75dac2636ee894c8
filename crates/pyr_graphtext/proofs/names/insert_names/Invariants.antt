use Rattle.std.proofs.Common.{◌≡◌, take}
use Rattle.pyr_graphtext.proofs.ListedNames.{with_names}
use Rattle.pyr_graphtext.proofs.names.insert_names.Given as goal

-- the names so far were added
abbrev pub invariant-loop-name : goal.invariant-loop-name
invariant-loop-name l = l.table ≡ with_names l.initial.table (take l.name-index l.names)
