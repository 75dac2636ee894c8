use Rattle.std.proofs.Common.{◌≤◌, ◌<◌, ◌-◌, vec_len}
use Rattle.std.specs.Io.KnownBytes.{Consumes}
use Rattle.pyr_port.proofs.reading.read_all.Given as goal

abbrev pub invariant-loop-bytes : goal.invariant-loop-bytes
invariant-loop-bytes g l =
    Consumes (g.S.Source.left l.initial.source) (g.S.Source.left l.source) l.bytes.items
    × (vec_len l.bytes ≤ l.limit)
    × (0 < vec_len l.piece)
    × (g.S.Source.faults l.initial.source ≤ g.S.Source.faults l.source)

abbrev pub decreases-loop-bytes : goal.decreases-loop-bytes
decreases-loop-bytes g l = l.limit - vec_len l.bytes
