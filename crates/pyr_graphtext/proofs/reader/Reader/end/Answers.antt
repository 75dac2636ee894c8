use Rattle.std.proofs.Common.{◌≡◌, Err, rules, sym, subst, ◌∙◌}
use Rattle.pyr_graphtext.specs.declared.form.Form.TheVariants as forms
use Rattle.pyr_graphtext.specs.State.{State, FitsOpen, Follows}
use Rattle.pyr_graphtext.specs.Taking.{TakesForm}
use Rattle.pyr_graphtext.proofs.EndTaking.{end_none, refused_seen, close_added, closed_fits}
use Rattle.pyr_graphtext.proofs.reader.Reader.end.Goals as goal

pub returns-in_default : goal.returns-in_default
returns-in_default c = λ said f. end_none _ (sym c.take.ensures.value ∙ c.in_default.is) said (subst (Follows said) (sym c.self.view_is) f)

pub returns-in_err-closed : goal.returns-in_err-closed
returns-in_err-closed c =
    let e : c.from_residual.result ≡ Err c.in_err-closed.field-0.0 = search rules in
    refused_seen c.from_residual.result _ _ _ c.in-Some.task c.in_err-closed.field-0.0 c.self.view_is e (sym c.take.ensures.value ∙ c.in-Some.is) c.in_err-closed.ensures

pub add-requires : goal.add-requires
add-requires c = closed_fits c.self.inside.nodes c.in-Some.task.part c.in_ok-closed.closed.body (subst (FitsOpen c.self.inside.nodes) (sym c.take.ensures.value ∙ c.in-Some.is) c.self.invariant.open_task) c.self.invariant.nodes c.in_ok-closed.ensures.0

pub returns : goal.returns
returns c = subst (λ (s : State). TakesForm s forms.End c.add.result c.add.new.self) c.self.view_is (close_added c.add.result _ c.add.new.self c.in-Some.task c.in_ok-closed.closed (sym c.take.ensures.value ∙ c.in-Some.is) c.in_ok-closed.ensures c.add.ensures.fault c.add.ensures.ok)
