use Rattle.std.proofs.Common.{◌≡◌, ℕ, ◌+◌, ◌-◌, ◌∷◌, suc, length, take, drop, arith, sym, ap, ◌∙◌, add-one, length-drop}
use Rattle.std.proofs.lemmas.List.{take_all}
use Rattle.pyr_bundletext.proofs.Cuts.{len_before, short, one_word, first_of}
use Rattle.pyr_bundletext.specs.Reading.{split}
use Rattle.pyr_bundletext.proofs.words.first_word.Goals as goal

pub returns-then-len-line-clause-words : goal.returns-then-len-line-clause-words
returns-then-len-line-clause-words c =
    one_word c.args.line.now (sym c.len_before-len.ensures.exact ∙ c.if-len-line.true)

pub returns-clause-words : goal.returns-clause-words
returns-clause-words c =
    let text = c.args.line.now in
    let n = c.len_before-len.result in
    let exact : n ≡ len_before 32 text = c.len_before-len.ensures.exact in
    let after : take (length text - (n + 1)) (drop (n + 1) text) ≡ drop (suc n) text = take_all (length text - (n + 1)) (drop (n + 1) text) (omega (arith, length-drop (n + 1) text)) ∙ ap (λ (k : ℕ). drop k text) (add-one n) in
    let parts : split text ≡ take n text ∷ split (drop (suc n) text) = rw exact (first_of text (short n 32 text exact c.len_before-len.ensures.within c.if-len-line.false)) in
    rw after parts
