use Rattle.std.proofs.Common.{◌≡◌, length, refl, arith}
use Rattle.pyr_machine.specs.Station.{emptied}
use Rattle.pyr_machine.proofs.Restart.{change_more, change_all}
use Rattle.pyr_machine.proofs.station.clear_all.Goals as goal

pub loop-channel-init : goal.loop-channel-init
loop-channel-init c = refl

pub loop-channel-preserved : goal.loop-channel-preserved
loop-channel-preserved c =
    let i = c.loop-channel in
    change_more emptied i.channel-index c.args.channels.now i.channels c.channel-item.result c.clear.new.self
    c.loop-channel-test.true i.invariant c.clear.ensures

pub returns : goal.returns
returns c =
    let all : c.loop-channel.channel-index ≡ length c.args.channels.now = omega arith in
    change_all emptied c.loop-channel.channel-index c.args.channels.now c.loop-channel.channels all
    c.loop-channel.invariant
