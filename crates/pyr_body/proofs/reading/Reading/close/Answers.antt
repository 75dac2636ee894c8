use Rattle.std.proofs.Common.{List, length, ◌++◌, ◌∷◌, [], sym, ap, subst, ◌∙◌}
use Rattle.pyr_body.specs.declared.stmt.Stmt.TheVariants as statements
use Rattle.pyr_body.specs.declared.open_loop.OpenLoop.{OpenLoop}
use Rattle.pyr_body.specs.Kept.{taken_by, IsKept}
use Rattle.pyr_body.specs.Taking.{after_done}
use Rattle.pyr_body.proofs.TakingLemmas.{done_taken}
use Rattle.pyr_body.proofs.reading.Reading.close.Goals as goal

pub invariant_of-self : goal.invariant_of-self
invariant_of-self c =
    subst (λ (outer : List OpenLoop). IsKept (taken_by c.self.inside.reads c.self.inside.slots c.self.inside.nodes_before c.self.inside.locals outer c.self.inside.current) (length outer) c.self.inside.nodes)
    (c.in_default.ensures.0 ∙ sym c.in_default.ensures.1) c.self.invariant

pub invariant_of-self-2 : goal.invariant_of-self-2
invariant_of-self-2 c = (done_taken _ _ _ _ c.self.inside.outer c.self.inside.current _ c.self.invariant _ c.in-Some.open c.replace-turn.result _ c.in-Some.ensures c.replace-turn.ensures.value (c.in_ok-push.ensures.ok ∙ ap (λ f. f ++ statements.For c.in-Some.open.local c.in-Some.open.count c.replace-turn.result ∷ []) c.replace-turn.ensures.after)).kept

pub returns : goal.returns
returns c =
    ap after_done (sym c.self.view_is)
    ∙ (done_taken _ _ _ _ c.self.inside.outer c.self.inside.current _ c.self.invariant _ c.in-Some.open c.replace-turn.result _ c.in-Some.ensures c.replace-turn.ensures.value (c.in_ok-push.ensures.ok ∙ ap (λ f. f ++ statements.For c.in-Some.open.local c.in-Some.open.count c.replace-turn.result ∷ []) c.replace-turn.ensures.after)).is
