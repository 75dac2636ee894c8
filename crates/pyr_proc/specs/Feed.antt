-- What the wires of a bundle are made for.
use Rattle.std.specs.Prelude.{ℕ, zero, suc, List, [], ◌++◌, length}
use Rattle.pyr_num.specs.declared.parcel.Parcel.{Parcel}
use Rattle.pyr_bundle.specs.Parts.{Parts, datum_id}
use Rattle.pyr_bundle.specs.Values.{tasks_of}
use Rattle.pyr_machine.specs.Local.{traffic}
use Rattle.pyr_machine.specs.Machine.{capacity_of}
use Rattle.pyr_wire.specs.End.{End, end_at}
use Rattle.pyr_proc.specs.Rounds.{settled}

-- the parcel of a datum that holds its sequential value in a frame
abbrev pub settled_parcel : Parts → ℕ → ℕ → Parcel
settled_parcel b frame d = record { tag = datum_id d; words = settled (tasks_of b frame) d }

-- the traffic from p to q in one frame
abbrev pub frame_traffic : Parts → ℕ → ℕ → ℕ → List Parcel
frame_traffic b frame p q = traffic b (settled_parcel b frame) p q

-- the traffic from p to q in the first n frames, one frame after another
abbrev pub feed_of : Parts → ℕ → ℕ → ℕ → List Parcel
feed_of b zero p q = []
feed_of b (suc frame) p q = feed_of b frame p q ++ frame_traffic b frame p q

-- an end of the wire from p to q for so many frames, when the traffic of the first `ran` of them
-- has gone through it
abbrev pub wire_end : Parts → ℕ → ℕ → ℕ → ℕ → End
wire_end b frames ran p q =
    end_at (feed_of b frames p q) (length (feed_of b ran p q)) (capacity_of b p q)
