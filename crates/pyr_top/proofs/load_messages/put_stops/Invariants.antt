use Rattle.std.proofs.Common.{◌≡◌, ◌++◌, drop}
use Rattle.pyr_top.specs.LoadMessages.{stops_text}
use Rattle.pyr_top.proofs.load_messages.put_stops.Given as goal

abbrev pub invariant-loop-p : goal.invariant-loop-p
invariant-loop-p l = record {
  text : l.line.items ++ stops_text l.p (drop l.p l.stops) ≡ l.initial.line.items ++ stops_text 0 l.stops;
}
