use Rattle.std.proofs.Common.{◌≡◌}
use Rattle.pyr_machine.specs.Machine.{tag_rules}
use Rattle.pyr_machine.specs.Counts.{steps_left}
use Rattle.pyr_machine.specs.Station.{world_of}
use Rattle.pyr_calm.proofs.Courses.{IsOnCourse}
use Rattle.pyr_calm.proofs.course.course.Given as goal

-- the passages are those of a run to this state
abbrev pub invariant-steps : goal.invariant-steps
invariant-steps l =
    (tag_rules l.tags.bundle ≡ tag_rules l.bundle)
    × IsOnCourse l.bundle l.passages.items (world_of l.tags.posts)

abbrev pub decreases-steps : goal.decreases-steps
decreases-steps l = steps_left l.bundle (world_of l.tags.posts)
