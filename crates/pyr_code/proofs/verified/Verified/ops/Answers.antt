use Rattle.std.proofs.Common.{subst}
use Rattle.pyr_code.specs.Verified.{IsVerified}
use Rattle.pyr_code.proofs.verified.Verified.ops.Goals as goal

pub returns-clause-verified : goal.returns-clause-verified
returns-clause-verified c = subst IsVerified c.self.view_is c.self.invariant
