use Rattle.std.proofs.Common.{◌≡◌, ◌+◌, ◌*◌, length}
use Rattle.pyr_net.specs.Run.{Reaches}
use Rattle.pyr_machine.specs.Machine.{tag_rules}
use Rattle.pyr_machine.specs.Counts.{steps_left}
use Rattle.pyr_machine.specs.Station.{world_of}
use Rattle.pyr_loader.specs.WorkList.{IsListed, AreActors}
use Rattle.pyr_loader.proofs.work_list.run_out.Given as goal

-- the work list has every processor that can make a step
abbrev pub invariant-turns : goal.invariant-turns
invariant-turns l = record {
  rules : tag_rules l.tags.bundle ≡ tag_rules l.bundle;
  reached : Reaches (tag_rules l.bundle) (world_of l.fn.tags.posts) l.steps (world_of l.tags.posts);
  listed : IsListed (tag_rules l.bundle) (world_of l.tags.posts) l.waiting.items;
  actors : AreActors (tag_rules l.bundle) l.waiting.items;
}

abbrev pub decreases-turns : goal.decreases-turns
decreases-turns l = 3 * steps_left l.bundle (world_of l.tags.posts) + length l.waiting.items
