use Rattle.std.proofs.Common.{◌≡◌, ◌++◌}
use Rattle.pyr_machine.specs.Schedule.{again}
use Rattle.pyr_size.proofs.schedule.push_turns.Given as goal

abbrev pub invariant-loop-turn : goal.invariant-loop-turn
invariant-loop-turn l = l.schedule.items ≡ l.fn.schedule.items ++ again l._turn l.block.processor
