use Rattle.std.proofs.Common.{◌≡◌, Err, rules, sym, subst, ◌∙◌}
use Rattle.pyr_lex.specs.Token.{tokens_in}
use Rattle.pyr_graphtext.specs.State.{FitsOpen}
use Rattle.pyr_graphtext.proofs.LineTaking.{stray_takes, body_line_fails, body_line_grows, statement_fits}
use Rattle.pyr_graphtext.proofs.reader.Reader.statement.Goals as goal

pub returns-in_default : goal.returns-in_default
returns-in_default c = stray_takes (Unit {0}) _ _ _ (tokens_in c.args.tokens.now) c.stray_fault.result c.self.view_is c.stray_fault.ensures (sym c.take.ensures.value ∙ c.in_default.is) c.requires.statement

pub returns-in_err-task : goal.returns-in_err-task
returns-in_err-task c =
    let e : c.from_residual.result ≡ Err c.in_err-task.field-0.0 = search rules in
    body_line_fails c.from_residual.result _ _ _ c.in-Some.task (tokens_in c.args.tokens.now) c.in_err-task.field-0.0 c.self.view_is e (sym c.take.ensures.value ∙ c.in-Some.is) c.requires.statement c.in_err-task.ensures

pub go_on-requires : goal.go_on-requires
go_on-requires c = statement_fits c.self.inside.nodes c.in-Some.task c.in_ok-task.task (tokens_in c.args.tokens.now) (subst (FitsOpen c.self.inside.nodes) (sym c.take.ensures.value ∙ c.in-Some.is) c.self.invariant.open_task) c.self.invariant.nodes c.in_ok-task.ensures

pub returns : goal.returns
returns c = body_line_grows _ _ _ c.in-Some.task c.in_ok-task.task (tokens_in c.args.tokens.now) c.self.view_is (sym c.take.ensures.value ∙ c.in-Some.is) c.requires.statement c.in_ok-task.ensures c.go_on.ensures
