use Rattle.std.proofs.Common.{◌<◌}
use Rattle.pyr_loader.specs.declared.leftover.Unreceived.{Unreceived}
use Rattle.pyr_loader.specs.Unreceived.{IsUnreceived}
use Rattle.pyr_loader.proofs.leftover.first_unreceived.Given as goal

-- no processor before this one has such a send
abbrev pub invariant-loop-p : goal.invariant-loop-p
invariant-loop-p l = (t : Unreceived) → IsUnreceived l.bundle t → t.from.0 < l.p → ⊥
