use Rattle.std.proofs.Common.{subst}
use Rattle.pyr_bundle.specs.WellFormed.{IsWellFormed}
use Rattle.pyr_bundle.proofs.WellFormedLemmas.{well_formed}
use Rattle.pyr_bundle.proofs.bundle.Bundle.well_formed.Goals as goal

pub returns : goal.returns
returns c = subst IsWellFormed c.self.view_is (well_formed _ c.self.invariant)
