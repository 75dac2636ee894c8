use Rattle.std.proofs.Common.{◌≡◌, take}
use Rattle.pyr_bundle.specs.Values.{zeros}
use Rattle.pyr_machine.specs.State.{numbers}
use Rattle.pyr_proc.proofs.computing.open.Given as goal

-- the first of them have their outputs
abbrev pub invariant-loop-d : goal.invariant-loop-d
invariant-loop-d l =
    l.cells ≡ record l.fn.cells { outputs = zeros l.bundle (numbers (take l.d-index l.writes)) }
