use Rattle.std.proofs.Common.{◌≡◌, drop}
use Rattle.pyr_net.specs.Occupancy.{occupancy}
use Rattle.pyr_bundle.specs.Parts.{processor_count}
use Rattle.pyr_machine.specs.Machine.{tag_rules, start}
use Rattle.pyr_machine.specs.Station.{world_of}
use Rattle.pyr_size.specs.Followed.{number_of, IsLeft}
use Rattle.pyr_size.specs.Sizes.{Completes}
use Rattle.pyr_size.proofs.following.follow.Given as goal

-- the rest of the run is left, and the lengths so far are noted
abbrev pub invariant-loop-p : goal.invariant-loop-p
invariant-loop-p l = record {
  rules : tag_rules l.tags.bundle ≡ tag_rules l.bundle;
  size : l.lengths.size ≡ processor_count l.bundle;
  left : (complete : Completes l.bundle l.schedule)
      → IsLeft l.bundle (occupancy (tag_rules l.bundle) start complete.run) (drop l.p-index l.schedule) (world_of l.tags.posts) (number_of l.lengths);
}
