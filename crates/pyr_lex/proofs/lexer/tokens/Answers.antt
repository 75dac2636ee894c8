use Rattle.std.proofs.Common.{arith, ◌≡◌, ◌≤◌, ℕ, List, Some, None, refl, length, drop, sym, ap, ◌∙◌, subst, eq-eqb}
use Rattle.std.proofs.lemmas.Bool.{ne_eqb}
use Rattle.std.proofs.lemmas.List.{take_rest}
use Rattle.pyr_lex.specs.declared.token.Token.{Token}
use Rattle.pyr_lex.specs.Reading.{front_token, spanned_tokens_of}
use Rattle.pyr_lex.proofs.Steps.{starts, at_blank, at_comment, at_no_token, at_token, at_end}
use Rattle.pyr_lex.proofs.Lines.{read_are_tokens, nothing_read, few_tokens}
use Rattle.pyr_lex.proofs.lexer.tokens.Goals as goal
use Rattle.pyr_lex.proofs.lexer.tokens.Goals.{then-loop-at-test+else-line-at-ne35, else-loop-at-test}

pub loop-at-init : goal.loop-at-init
loop-at-init c = rw c.new-tokens.ensures.items (starts c.args.line.now)

pub loop-at-preserved-then-is_blank : goal.loop-at-preserved-then-is_blank
loop-at-preserved-then-is_blank c =
    at_blank c.args.line.now c.loop-at.tokens.items c.loop-at.at c.loop-at-test.true (ne_eqb _ _ c.if-line-at-ne35.true) (sym c.if-is_blank.ensures) c.loop-at.invariant

pub returns-in_default : goal.returns-in_default
returns-in_default c =
    let line = c.args.line.now in
    let front : front_token (drop c.loop-at.at line) ≡ None = ap front_token (sym (take_rest line c.loop-at.at)) ∙ sym c.in_default.ensures.value in
    let none = at_no_token line c.loop-at.tokens.items c.loop-at.at c.loop-at-test.true (ne_eqb _ _ c.if-line-at-ne35.true) (sym c.if-is_blank.ensures) front c.loop-at.invariant in
    record { read = tt; few = tt; refused = (refl, nothing_read line none); value = none }

pub loop-at-preserved : goal.loop-at-preserved
loop-at-preserved c =
    let line = c.args.line.now in
    let t : Token × ℕ = (c.in-Some.token, c.in-Some.len) in
    let within : c.in-Some.len ≤ length (drop c.loop-at.at line) = subst (λ (bs : List ℕ). c.in-Some.len ≤ length bs) (take_rest line c.loop-at.at) c.in-Some.ensures.within in
    rw c.in_ok-push.ensures.items (at_token line c.loop-at.tokens.items c.loop-at.at t c.loop-at-test.true (ne_eqb _ _ c.if-line-at-ne35.true) (sym c.if-is_blank.ensures) (ap front_token (sym (take_rest line c.loop-at.at)) ∙ sym c.in-Some.ensures.value) c.in-Some.ensures.some within c.loop-at.invariant)

pub returns : goal.returns
returns c =
    let line = c.args.line.now in
    let tokens = c.loop-at.tokens.items in
    let all : spanned_tokens_of line ≡ Some tokens = elim c.loop-at-test.branch [
      | then-loop-at-test+else-line-at-ne35 w ↦ at_comment line tokens c.loop-at.at w.loop-at-test.true (eq-eqb _ _ w.if-line-at-ne35.false) c.loop-at.invariant
      | else-loop-at-test w ↦ at_end line tokens c.loop-at.at w.loop-at-test.false c.loop-at.invariant
    ] in
    let found = read_are_tokens line tokens all in
    record { read = found; few = omega (arith, few_tokens line tokens found); refused = tt; value = all }
