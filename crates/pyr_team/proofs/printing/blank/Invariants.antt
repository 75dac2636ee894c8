use Rattle.std.proofs.Common.{◌≡◌, ◌≤◌, take, length, vec_capacity}
use Rattle.pyr_bundle.specs.Values.{zeros}
use Rattle.pyr_machine.specs.State.{numbers}
use Rattle.pyr_team.proofs.printing.blank.Given as goal

abbrev pub invariant-loop-d : goal.invariant-loop-d
invariant-loop-d l =
    (l.lists.items ≡ zeros l.bundle (numbers (take l.d-index l.prints))) × (length l.prints ≤ vec_capacity l.lists)
