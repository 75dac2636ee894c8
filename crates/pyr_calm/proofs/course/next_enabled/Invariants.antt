use Rattle.std.proofs.Common.{ℕ, ◌≤◌, ◌<◌}
use Rattle.pyr_net.specs.Net.{IsEnabled}
use Rattle.pyr_calm.proofs.course.next_enabled.Given as goal

-- none of these could make a step
abbrev pub invariant-loop-p : goal.invariant-loop-p
invariant-loop-p g l =
    (q : ℕ) → l.from ≤ q → q < l.p → ¬ IsEnabled (g.N.Net.rules l.net) (g.N.Net.world l.net) q

abbrev pub invariant-loop-p-2 : goal.invariant-loop-p-2
invariant-loop-p-2 g l =
    ((q : ℕ) → l.from ≤ q → ¬ IsEnabled (g.N.Net.rules l.net) (g.N.Net.world l.net) q)
    × ((q : ℕ) → q < l.p → ¬ IsEnabled (g.N.Net.rules l.net) (g.N.Net.world l.net) q)
