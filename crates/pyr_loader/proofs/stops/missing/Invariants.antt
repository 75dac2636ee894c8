use Rattle.std.proofs.Common.{◌≡◌}
use Rattle.std.specs.Prelude.{take, None}
use Rattle.pyr_machine.specs.Station.{world_of}
use Rattle.pyr_loader.specs.Stops.{first_missing}
use Rattle.pyr_loader.proofs.stops.missing.Given as goal

abbrev pub invariant-loop-d : goal.invariant-loop-d
invariant-loop-d l = first_missing ((world_of l.tags.posts).locals l.p.0).store (take l.d-index l.datums) ≡ None
