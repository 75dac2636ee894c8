use Rattle.std.proofs.Common.{sym, ap, ◌∙◌, arith}
use Rattle.pyr_body.specs.WrittenSeen.{written_of}
use Rattle.pyr_body.specs.Taking.{after_set}
use Rattle.pyr_body.specs.Fitting.{set_value}
use Rattle.pyr_body.proofs.TakingLemmas.{set_taken, set_fits}
use Rattle.pyr_body.proofs.reading.Reading.set.Goals as goal

pub overflow_add-self : goal.overflow_add-self
overflow_add-self c =
    omega (arith, c.written_nodes-added.ensures, set_fits _ _ _ _ c.self.inside.outer c.self.inside.current _ c.self.invariant c.args.name (written_of c.args.value.now) _ (ap (λ s. set_value s c.args.name (written_of c.args.value.now)) c.self.view_is ∙ c.in_ok-value.ensures))

pub invariant_of-self : goal.invariant_of-self
invariant_of-self c = (set_taken _ _ _ _ c.self.inside.outer c.self.inside.current _ c.self.invariant c.written_nodes-added.result c.args.name (written_of c.args.value.now) c.in_ok-value.value _ _ c.written_nodes-added.ensures (ap (λ s. set_value s c.args.name (written_of c.args.value.now)) c.self.view_is ∙ c.in_ok-value.ensures) c.in_ok-push_set.ensures.locals c.in_ok-push_set.ensures.current c.requires.depth).kept

pub returns : goal.returns
returns c =
    ap (λ s. after_set s c.args.name (written_of c.args.value.now)) (sym c.self.view_is)
    ∙ (set_taken _ _ _ _ c.self.inside.outer c.self.inside.current _ c.self.invariant c.written_nodes-added.result c.args.name (written_of c.args.value.now) c.in_ok-value.value _ _ c.written_nodes-added.ensures (ap (λ s. set_value s c.args.name (written_of c.args.value.now)) c.self.view_is ∙ c.in_ok-value.ensures) c.in_ok-push_set.ensures.locals c.in_ok-push_set.ensures.current c.requires.depth).is
