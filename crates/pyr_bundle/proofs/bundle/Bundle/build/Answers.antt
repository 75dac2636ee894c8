use Rattle.std.proofs.Common.{◌∙◌, sym, subst}
use Rattle.pyr_bundle.specs.Parts.{IsBundle}
use Rattle.pyr_bundle.proofs.PartsLemmas.{bundle_of, parts_are}
use Rattle.pyr_bundle.proofs.bundle.Bundle.build.Goals as goal

pub invariant_of-result : goal.invariant_of-result
invariant_of-result c =
    let parts = c.in_ok-tasks.ensures in
    let are = parts_are c.args.raw _ _ _ _ _ c.into_datums-datums.ensures (c.from_vec.ensures ∙ parts.tasks) parts.prints parts.channels parts.code in
    subst IsBundle (sym are) (bundle_of c.args.raw parts.lawful c.requires)

pub returns-clause-parts : goal.returns-clause-parts
returns-clause-parts c =
    let parts = c.in_ok-tasks.ensures in
    parts_are c.args.raw _ _ _ _ _ c.into_datums-datums.ensures (c.from_vec.ensures ∙ parts.tasks) parts.prints parts.channels parts.code

pub returns-clause-lawful : goal.returns-clause-lawful
returns-clause-lawful c = c.in_ok-tasks.ensures.lawful
