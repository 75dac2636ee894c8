use Rattle.std.proofs.Common.{sym, ap, ◌∙◌}
use Rattle.pyr_body.specs.Taking.{after_for}
use Rattle.pyr_body.specs.Fitting.{for_fits}
use Rattle.pyr_body.proofs.TakingLemmas.{for_taken}
use Rattle.pyr_body.proofs.reading.Reading.open.Goals as goal

pub invariant_of-self : goal.invariant_of-self
invariant_of-self c = (for_taken _ _ _ _ c.self.inside.outer c.self.inside.current _ c.self.invariant c.args.name c.args.count _ _ _ (ap (λ s. for_fits s c.args.name c.args.count) c.self.view_is ∙ c.in_ok-fit_for.ensures) c.in_ok-push_for.ensures.locals c.in_ok-push_for.ensures.outer c.in_ok-push_for.ensures.current).kept

pub returns : goal.returns
returns c =
    ap (λ s. after_for s c.args.name c.args.count) (sym c.self.view_is)
    ∙ (for_taken _ _ _ _ c.self.inside.outer c.self.inside.current _ c.self.invariant c.args.name c.args.count _ _ _ (ap (λ s. for_fits s c.args.name c.args.count) c.self.view_is ∙ c.in_ok-fit_for.ensures) c.in_ok-push_for.ensures.locals c.in_ok-push_for.ensures.outer c.in_ok-push_for.ensures.current).is
