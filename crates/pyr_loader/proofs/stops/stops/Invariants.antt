use Rattle.std.proofs.Common.{◌≡◌}
use Rattle.pyr_machine.specs.Station.{world_of}
use Rattle.pyr_loader.specs.Stops.{stops_below}
use Rattle.pyr_loader.proofs.stops.stops.Given as goal

abbrev pub invariant-loop-p : goal.invariant-loop-p
invariant-loop-p l = l.stops.items ≡ stops_below l.bundle (world_of l.tags.posts) l.p
