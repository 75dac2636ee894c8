use Rattle.std.proofs.Common.{◌≡◌, map, take}
use Rattle.pyr_machine.specs.Parcels.{words_in}
use Rattle.pyr_machine.specs.State.{numbers}
use Rattle.pyr_proc.specs.Entries.{store_of}
use Rattle.pyr_proc.proofs.computing.load.Given as goal

-- the first of them are inputs
abbrev pub invariant-loop-d : goal.invariant-loop-d
invariant-loop-d l =
    l.cells ≡ record l.fn.cells { inputs = map (λ d. words_in d (store_of l.entries)) (numbers (take l.d-index l.reads)) }
