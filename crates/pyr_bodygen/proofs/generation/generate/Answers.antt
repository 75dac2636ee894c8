use Rattle.std.proofs.Common.{◌≡◌, true, false, subst, sym, rules}
use Rattle.pyr_bodygen.specs.Agreement.{IsCodeOf}
use Rattle.pyr_bodygen.proofs.CodeLemmas.{code_made, same_meaning, is_verified, code_nodes-same, code_work-same, greatest_height-low}
use Rattle.pyr_bodygen.proofs.generation.generate.Goals as goal

no_false : false ≡ true → ⊥
no_false e = cc

-- what `verify` accepted is the code of the body
accepted : (c : goal.In-Ok) → IsCodeOf c.args.body.now c.in-Ok.code
accepted c =
    subst (IsCodeOf c.args.body.now) (sym c.in-Ok.ensures.value)
    (code_made c.args.body.now _ _ _ (search rules) c.in_ok-ops.ensures c.statements.ensures.value)

pub verify-requires : goal.verify-requires
verify-requires c =
    let made = code_made c.args.body.now _ _ _ (cc) c.in_ok-ops.ensures c.statements.ensures.value in
    (is_verified c.args.body.now _ c.statements.ensures.body made).limits

pub unreachable-requires : goal.unreachable-requires
unreachable-requires c =
    let made = code_made c.args.body.now _ _ _ (cc) c.in_ok-ops.ensures c.statements.ensures.value in
    no_false (c.in_default.ensures.accepted.1 (is_verified c.args.body.now _ c.statements.ensures.body made).well_formed)

pub returns-clause-same : goal.returns-clause-same
returns-clause-same c = same_meaning c.args.body.now c.in-Ok.code (accepted c)

pub returns-clause-nodes : goal.returns-clause-nodes
returns-clause-nodes c = code_nodes-same c.args.body.now c.in-Ok.code (accepted c)

pub returns-clause-work : goal.returns-clause-work
returns-clause-work c = code_work-same c.args.body.now c.in-Ok.code (accepted c)

pub returns-clause-height : goal.returns-clause-height
returns-clause-height c = greatest_height-low c.args.body.now c.in-Ok.code c.statements.ensures.body (accepted c)
