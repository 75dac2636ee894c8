use Rattle.std.proofs.Common.{◌≡◌, ℕ, ◌+◌, ◌-◌, [], suc, length, take, drop, arith, refl, sym, ap, ◌∙◌, add-one, length-drop}
use Rattle.std.proofs.lemmas.List.{take_all, drop_all}
use Rattle.pyr_graphtext.proofs.Cut.{cut, line_len}
use Rattle.pyr_graphtext.proofs.text_lines.first_line.Goals as goal

pub returns-then-len-text-clause-cut : goal.returns-then-len-text-clause-cut
returns-then-len-text-clause-cut c =
    let text = c.args.text.now in
    let whole : line_len text ≡ length text = sym c.line_len-len.ensures.exact ∙ c.if-len-text.true in
    let front : take (line_len text) text ≡ text = take_all (line_len text) text (omega arith) in
    let nothing : drop (suc (line_len text)) text ≡ [] = drop_all (suc (line_len text)) text (omega arith) in
    cut text c.requires ∙ rw (front, nothing) refl

pub returns-clause-cut : goal.returns-clause-cut
returns-clause-cut c =
    let text = c.args.text.now in
    let n = c.line_len-len.result in
    let after : take (length text - (n + 1)) (drop (n + 1) text) ≡ drop (suc n) text = take_all (length text - (n + 1)) (drop (n + 1) text) (omega (arith, length-drop (n + 1) text)) ∙ ap (λ (k : ℕ). drop k text) (add-one n) in
    cut text c.requires ∙ rw (← c.line_len-len.ensures.exact, after) refl
