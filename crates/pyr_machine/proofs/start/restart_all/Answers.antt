use Rattle.std.proofs.Common.{◌≡◌, length, refl, arith}
use Rattle.pyr_machine.specs.Station.{restarted}
use Rattle.pyr_machine.proofs.Restart.{change_more, change_all}
use Rattle.pyr_machine.proofs.start.restart_all.Goals as goal

pub loop-station-init : goal.loop-station-init
loop-station-init c = refl

pub loop-station-preserved : goal.loop-station-preserved
loop-station-preserved c =
    let i = c.loop-station in
    change_more restarted i.station-index c.args.stations.now i.stations c.station-item.result c.restart.new.self
    c.loop-station-test.true i.invariant c.restart.ensures

pub returns : goal.returns
returns c =
    let all : c.loop-station.station-index ≡ length c.args.stations.now = omega arith in
    change_all restarted c.loop-station.station-index c.args.stations.now c.loop-station.stations all
    c.loop-station.invariant
