-- The first line, and the lines after it.
use Rattle.std.proofs.Common.{◌≡◌, ℕ, zero, suc, ◌+◌, ◌-◌, ◌<◌, ◌≤◌, Bool, true, false, eqb, not, List, [], ◌∷◌, length, take, drop, refl, sym, ap, ◌∙◌, arith}
use Rattle.std.specs.List.{prefix_len}
use Rattle.pyr_graphtext.specs.Lines.{lines, onto_first}

abbrev pub line_len : List ℕ → ℕ
line_len bytes = prefix_len (λ b. not (eqb b 10)) bytes

onto : (b n : ℕ) (bs : List ℕ) → n ≡ line_len bs → (0 < length bs → lines bs ≡ take n bs ∷ lines (drop (suc n) bs))
    → onto_first b (lines bs) ≡ (b ∷ take n bs) ∷ lines (drop (suc n) bs)
unfolding lines
onto b n [] e h = rw e refl
onto b n (c ∷ cs) e h = rw (h (omega arith)) refl

pub cut : (text : List ℕ) → 0 < length text → lines text ≡ take (line_len text) text ∷ lines (drop (suc (line_len text)) text)
unfolding lines
cut [] h = absurd (omega arith)
cut (b ∷ bs) h =
    elim (eqb b 10) as (λ t. Rattle.std.proofs.Common.cond t ([] ∷ lines bs) (onto_first b (lines bs)) ≡ take (Rattle.std.proofs.Common.cond (not t) (1 + line_len bs) 0) (b ∷ bs) ∷ lines (drop (suc (Rattle.std.proofs.Common.cond (not t) (1 + line_len bs) 0)) (b ∷ bs))) [
      | true ↦ refl
      | false ↦ (let e : 1 + line_len bs ≡ suc (line_len bs) = omega arith in rw e (onto b (line_len bs) bs refl (λ pos. cut bs pos)))
    ]
