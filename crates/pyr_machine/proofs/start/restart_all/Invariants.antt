use Rattle.std.proofs.Common.{◌≡◌}
use Rattle.pyr_machine.specs.Station.{restarted}
use Rattle.pyr_machine.proofs.Restart.{changed_first}
use Rattle.pyr_machine.proofs.start.restart_all.Given as goal

abbrev pub invariant-loop-station : goal.invariant-loop-station
invariant-loop-station l = l.stations ≡ changed_first restarted l.station-index l.fn.stations
