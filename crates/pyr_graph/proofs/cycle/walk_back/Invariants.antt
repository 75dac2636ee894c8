use Rattle.std.proofs.Common.{◌-◌, length, vec_len}
use Rattle.pyr_graph.specs.System.{task_numbers}
use Rattle.pyr_graph.specs.Tables.{IsWaiting, Precedes}
use Rattle.pyr_graph.proofs.TrailLemmas.{IsTrail, IsPlaced}
use Rattle.pyr_graph.proofs.cycle.walk_back.Given as goal

-- the trail is a walk without a repeat, whose places are known
abbrev pub invariant-loop-first : goal.invariant-loop-first
invariant-loop-first l =
    IsTrail (IsWaiting l.pending) (Precedes l.predecessors) (task_numbers l.trail.items) l.task.0
    × IsPlaced (length l.pending) (task_numbers l.trail.items) l.places.items

abbrev pub decreases-loop-first : goal.decreases-loop-first
decreases-loop-first l = length l.pending - vec_len l.trail
