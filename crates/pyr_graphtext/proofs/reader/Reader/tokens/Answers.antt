use Rattle.std.proofs.Common.{◌≡◌, Bool, false, List, ◌∷◌, Ok, Err, rules, sym, subst, ap, ◌∙◌}
use Rattle.pyr_lex.specs.declared.token.Token.{Token}
use Rattle.pyr_lex.specs.declared.spanned_token.SpannedToken.{SpannedToken}
use Rattle.pyr_lex.specs.Token.{tokens_in}
use Rattle.pyr_graphtext.specs.declared.stage.Stage.{Stage}
use Rattle.pyr_graphtext.specs.Line.{Line}
use Rattle.pyr_graphtext.specs.Outcome.{begins_statement, IsTokensOutcome}
use Rattle.pyr_graphtext.specs.Faults.{is_outside}
use Rattle.pyr_graphtext.specs.State.{stage_in, Follows}
use Rattle.pyr_graphtext.specs.Taking.{TakesTokens}
use Rattle.pyr_graphtext.proofs.LineTaking.{form_takes, no_form_takes, blank_taken, nothing_in}
use Rattle.pyr_graphtext.proofs.reader.Reader.tokens.Goals as goal

pub returns-in_default : goal.returns-in_default
returns-in_default c = λ said f.
    subst (λ (ts : List Token). (x : Line) × IsTokensOutcome said ts (Ok x) × Follows (x ∷ said) c.args.self.now) (sym (nothing_in c.args.tokens.now c.in_default.ensures.cases)) (blank_taken c.args.self.now said f)

pub returns-in_err-form : goal.returns-in_err-form
returns-in_err-form c =
    let e : c.from_residual.result ≡ Err c.in_err-form.field-0.0 = search rules in
    let other : begins_statement (is_outside (stage_in c.args.self.now.open_task)) c.in-Some.first.now.token ≡ false =
    ap (λ (s : Stage). begins_statement (is_outside s) c.in-Some.first.now.token) (sym c.stage.ensures) ∙ ap (λ (b : Bool). begins_statement b c.in-Some.first.now.token) (sym c.is_outside.ensures) ∙ sym c.if-begins_statement.ensures in
    subst (λ (ts : List SpannedToken). TakesTokens c.args.self.now (tokens_in ts) c.from_residual.result c.args.self.now) (sym c.in-Some.ensures.cases.0)
    (no_form_takes c.from_residual.result c.args.self.now c.args.self.now c.in-Some.first.now.token (tokens_in c.in-Some.others.now) c.in_err-form.field-0.0 e other c.in_err-form.ensures)

pub returns : goal.returns
returns c =
    let other : begins_statement (is_outside (stage_in c.args.self.now.open_task)) c.in-Some.first.now.token ≡ false =
    ap (λ (s : Stage). begins_statement (is_outside s) c.in-Some.first.now.token) (sym c.stage.ensures) ∙ ap (λ (b : Bool). begins_statement b c.in-Some.first.now.token) (sym c.is_outside.ensures) ∙ sym c.if-begins_statement.ensures in
    subst (λ (ts : List SpannedToken). TakesTokens c.args.self.now (tokens_in ts) c.form.result c.form.new.self) (sym c.in-Some.ensures.cases.0)
    (form_takes c.args.self.now c.form.new.self c.in-Some.first.now.token (tokens_in c.in-Some.others.now) c.in_ok-form.form c.form.result other c.in_ok-form.ensures c.form.ensures)
