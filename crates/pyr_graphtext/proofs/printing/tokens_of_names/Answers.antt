use Rattle.std.proofs.Common.{◌≡◌, ℕ, ◌+◌, ◌<◌, List, [], ◌∷◌, ◌++◌, map, length, take, get_or, sym, ap, ◌∙◌}
use Rattle.std.proofs.lemmas.List.{map-append, take_all, take_more}
use Rattle.pyr_num.specs.declared.name.Name.{Name}
use Rattle.pyr_lex.specs.declared.token.Token.{Token}
use Rattle.pyr_lex.specs.declared.token.Token.TheVariants.{Name as name_token, Word as word_token}
use Rattle.pyr_graphtext.proofs.printing.tokens_of_names.Goals as goal

-- a name more
one_more : (word : Token) (ns : List Name) (i : ℕ) (x : Name) (old new : List Token) → i < length ns → x ≡ get_or ns i x
    → old ≡ word ∷ map name_token (take i ns) → new ≡ old ++ name_token x ∷ [] → new ≡ word ∷ map name_token (take (i + 1) ns)
one_more word ns i x old new h is so_far pushed =
    pushed
    ∙ ap (λ (ts : List Token). ts ++ name_token x ∷ []) so_far
    ∙ ap (λ (ts : List Token). word ∷ ts) (sym (map-append name_token (take i ns) (x ∷ [])))
    ∙ ap (λ (ms : List Name). word ∷ map name_token ms) (ap (λ (y : Name). take i ns ++ y ∷ []) is ∙ sym (take_more ns i x h))

pub loop-name-init : goal.loop-name-init
loop-name-init c = c.in_ok-push.ensures.items ∙ ap (λ (ts : List Token). ts ++ word_token c.args.word ∷ []) c.new-tokens.ensures.items

pub loop-name-preserved : goal.loop-name-preserved
loop-name-preserved c =
    one_more (word_token c.args.word) c.args.names.now c.loop-name.name-index c.name-item.result c.loop-name.tokens.items c.push-in-loop-name.new.self.items c.loop-name-test.true c.name-item.is c.loop-name.invariant c.in_ok-push-2.ensures.items

pub returns : goal.returns
returns c = c.loop-name.invariant ∙ ap (λ (ns : List Name). word_token c.args.word ∷ map name_token ns) (take_all c.loop-name.name-index c.args.names.now c.loop-name-test.false)
