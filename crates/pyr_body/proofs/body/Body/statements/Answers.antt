use Rattle.std.proofs.Common.{length, subst}
use Rattle.pyr_body.specs.Parts.{BodyParts}
use Rattle.pyr_body.specs.Scope.{AreScoped}
use Rattle.pyr_body.proofs.ScopeLemmas.{body_scoped}
use Rattle.pyr_body.proofs.body.Body.statements.Goals as goal

pub returns-clause-scoped : goal.returns-clause-scoped
returns-clause-scoped c =
    let P : BodyParts → Type 0 = λ b. AreScoped b.reads b.writes (length b.locals) b.statements in
    subst P c.self.view_is (body_scoped _ c.self.invariant)
