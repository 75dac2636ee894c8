use Rattle.std.proofs.Common.{◌≡◌}
use Rattle.pyr_machine.specs.Machine.{tag_rules}
use Rattle.pyr_machine.specs.Counts.{steps_left}
use Rattle.pyr_machine.specs.Station.{world_of}
use Rattle.pyr_size.specs.Followed.{HasTurn, KeepsLeft}
use Rattle.pyr_size.proofs.following.take_all.Given as goal

abbrev pub invariant-takes : goal.invariant-takes
invariant-takes l = record {
  rules : tag_rules l.tags.bundle ≡ tag_rules l.bundle;
  turn : HasTurn l.bundle l.p (world_of l.tags.posts);
  left : KeepsLeft l.bundle l.p (world_of l.fn.tags.posts) (world_of l.tags.posts);
}

abbrev pub decreases-takes : goal.decreases-takes
decreases-takes l = steps_left l.bundle (world_of l.tags.posts)
