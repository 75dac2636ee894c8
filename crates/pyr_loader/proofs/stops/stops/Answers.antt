use Rattle.pyr_machine.specs.Station.{world_of}
use Rattle.pyr_loader.proofs.StopLemmas.{more_stops}
use Rattle.pyr_loader.proofs.stops.stops.Goals as goal

pub loop-p-preserved : goal.loop-p-preserved
loop-p-preserved c =
    more_stops c.args.bundle.now (world_of c.args.tags.now.posts) c.loop-p.p c.loop-p.stops.items c.push.new.self.items c.stop_at.result c.loop-p.invariant c.in_ok-push.ensures.items c.stop_at.ensures
