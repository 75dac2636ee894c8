-- The words of a stack after a write above them.
use Rattle.std.proofs.Common.{◌≡◌, ◌≢◌, ℕ, zero, suc, ◌+◌, ◌<◌, ◌≤◌, List, ◌∷◌, length, get_or, set, refl, ap, ◌∙◌, arith, get_or-set_same, get_or-set_other}
use Rattle.pyr_code.specs.Stack.{stacked}

pub stacked-set : (words : List ℕ) (n i w : ℕ) → n ≤ i → stacked (set words i w) n ≡ stacked words n
stacked-set words zero i w l = refl
stacked-set words (suc n) i w l =
    let other : n ≢ i = omega arith in
    ap (λ x. x ∷ stacked (set words i w) n) (get_or-set_other words i n w 0 other)
    ∙ ap (λ t. get_or words n 0 ∷ t) (stacked-set words n i w (omega arith))

pub stacked-set_top : (words : List ℕ) (h w : ℕ) → h < length words → stacked (set words h w) (h + 1) ≡ w ∷ stacked words h
stacked-set_top words h w l =
    let e : h + 1 ≡ suc h = omega arith in
    ap (stacked (set words h w)) e
    ∙ ap (λ x. x ∷ stacked (set words h w) h) (get_or-set_same words h w 0 l)
    ∙ ap (λ t. w ∷ t) (stacked-set words h h w (omega arith))

pub length-stacked : (words : List ℕ) (h : ℕ) → length (stacked words h) ≡ h
length-stacked words zero = refl
length-stacked words (suc h) = ap suc (length-stacked words h)
