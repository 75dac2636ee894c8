use Rattle.std.proofs.Common.{◌≡◌, ◌∙◌, ◌+◌, List, [], ◌∷◌, ◌++◌, Option, Some, None, drop, refl, sym, ap}
use Rattle.std.proofs.lemmas.List.{append-nil, at_drop_all, drop_more}
use Rattle.pyr_lex.specs.declared.spanned_token.SpannedToken.{SpannedToken}
use Rattle.pyr_num.specs.declared.name.Name.{Name}
use Rattle.pyr_lex.specs.Token.{tokens_in}
use Rattle.pyr_graphtext.specs.FormReading.{names_in}
use Rattle.pyr_graphtext.proofs.Fronts.{with_front, name_more}
use Rattle.pyr_graphtext.proofs.form_reading.names_in.Goals as goal

-- no name comes before all of them
none_before : (front : List Name) (read : Option (List Name)) → front ≡ [] → with_front front read ≡ read
none_before front (Some ns) none = ap (λ (ms : List Name). Some (ms ++ ns)) none
none_before front None none = refl

pub loop-token-preserved : goal.loop-token-preserved
loop-token-preserved c =
    let i = c.loop-token.token-index in
    let tokens = c.args.tokens.now in
    name_more _ _ tokens i c.token-item.result c.in_ok-name.name _
    (drop_more tokens i c.token-item.result c.loop-token-test.true ∙ ap (λ (t : SpannedToken). t ∷ drop (i + 1) tokens) (sym c.token-item.is))
    c.in_ok-name.ensures c.in_ok-push.ensures.items c.loop-token.invariant

pub loop-token-init : goal.loop-token-init
loop-token-init c = none_before c.new-names.result.items _ c.new-names.ensures.items

pub returns : goal.returns
returns c =
    sym c.loop-token.invariant
    ∙ at_drop_all (λ (ts : List SpannedToken). with_front c.loop-token.names.items (names_in (tokens_in ts))) c.args.tokens.now c.loop-token.token-index c.loop-token-test.false
    ∙ ap (λ (ns : List Name). Some ns) (append-nil c.loop-token.names.items ∙ sym c.from_vec.ensures)
