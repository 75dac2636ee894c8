use Rattle.std.proofs.Common.{◌≡◌, ℕ, ◌+◌, ◌-◌, ◌∷◌, ◌++◌, suc, length, take, drop, arith, sym, ap, ◌∙◌, add-one, length-drop}
use Rattle.std.proofs.lemmas.List.{take_all}
use Rattle.pyr_bundletext.proofs.Cuts.{len_before, short, whole_lacks, front_lacks, parts_at}
use Rattle.pyr_bundletext.proofs.words.first_line.Goals as goal

pub returns-then-len-text-clause-none : goal.returns-then-len-text-clause-none
returns-then-len-text-clause-none c =
    whole_lacks 10 c.args.text.now (sym c.len_before-len.ensures.exact ∙ c.if-len-text.true)

pub returns-clause-cut : goal.returns-clause-cut
returns-clause-cut c =
    let text = c.args.text.now in
    let n = c.len_before-len.result in
    let exact : n ≡ len_before 10 text = c.len_before-len.ensures.exact in
    let after : take (length text - (n + 1)) (drop (n + 1) text) ≡ drop (suc n) text = take_all (length text - (n + 1)) (drop (n + 1) text) (omega (arith, length-drop (n + 1) text)) ∙ ap (λ (k : ℕ). drop k text) (add-one n) in
    let parts : text ≡ take n text ++ 10 ∷ drop (suc n) text = rw exact (parts_at 10 text (short n 10 text exact c.len_before-len.ensures.within c.if-len-text.false)) in
    record { parts = rw after parts; first = rw exact (front_lacks 10 text) }
