use Rattle.std.proofs.Common.{◌≡◌, ℕ, ◌<◌}
use Rattle.pyr_net.specs.Net.{action_at}
use Rattle.pyr_net.specs.declared.action.Action.TheVariants.{Ended}
use Rattle.pyr_machine.specs.Machine.{tag_rules}
use Rattle.pyr_machine.specs.Station.{world_of}
use Rattle.pyr_loader.proofs.stops.all_ended.Given as goal

abbrev pub invariant-loop-p : goal.invariant-loop-p
invariant-loop-p l = (q : ℕ) → q < l.p → action_at (tag_rules l.tags.bundle) (world_of l.tags.posts) q ≡ Ended
