use Rattle.std.proofs.Common.{◌≡◌}
use Rattle.pyr_machine.specs.Station.{emptied}
use Rattle.pyr_machine.proofs.Restart.{changed_first}
use Rattle.pyr_machine.proofs.station.clear_all.Given as goal

abbrev pub invariant-loop-channel : goal.invariant-loop-channel
invariant-loop-channel l = l.channels ≡ changed_first emptied l.channel-index l.fn.channels
