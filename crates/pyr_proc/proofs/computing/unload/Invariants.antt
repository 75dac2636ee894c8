use Rattle.std.proofs.Common.{◌≡◌, drop}
use Rattle.pyr_machine.specs.Machine.{all_stored}
use Rattle.pyr_machine.specs.Parcels.{parcel_tag, paired}
use Rattle.pyr_proc.specs.Entries.{store_of}
use Rattle.pyr_proc.specs.Computing.{FillsIn}
use Rattle.pyr_proc.proofs.computing.unload.Given as goal

-- what is left gives what all gives
abbrev pub invariant-loop-i : goal.invariant-loop-i
invariant-loop-i l =
    (all_stored parcel_tag (paired (drop l.i l.writes) (drop l.i l.cells.outputs)) (store_of l.entries)
    ≡ all_stored parcel_tag (paired l.writes l.cells.outputs) (store_of l.fn.entries))
    × FillsIn l.writes l.fn.entries l.entries
