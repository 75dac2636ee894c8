use Rattle.std.proofs.Common.{refl}
use Rattle.pyr_body.proofs.RunLemmas.{evaluated}
use Rattle.pyr_body.proofs.evaluation.evaluate.Goals as goal

pub returns-clause-value : goal.returns-clause-value
returns-clause-value c =
    evaluated c.args.frame _ _ c.args.body.now _ c.locals.result.now _ _ c.run_statements.ensures.state c.run_statements.ensures.rest
    c.statements.ensures.value c.locals.ensures.value c.locals.ensures.few refl
