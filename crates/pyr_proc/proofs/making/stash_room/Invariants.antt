use Rattle.std.proofs.Common.{◌≡◌, ◌≤◌, ◌*◌}
use Rattle.pyr_num.specs.declared.limits.TheConstants.Limits.{INSTRUCTIONS}
use Rattle.pyr_bundle.specs.Parts.{code_at}
use Rattle.pyr_machine.specs.Counts.{sends_to, sum_below}
use Rattle.pyr_proc.proofs.making.stash_room.Given as goal

abbrev pub invariant-loop-q : goal.invariant-loop-q
invariant-loop-q l = (l.count ≡ sum_below l.q (λ q. sends_to l.p.0 (code_at l.bundle q))) × (l.count ≤ l.q * INSTRUCTIONS)
