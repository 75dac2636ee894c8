-- The schedule while it is made.
use Rattle.std.proofs.Common.{◌≡◌, ℕ, zero, suc, ◌+◌, List, [], ◌∷◌, ◌++◌, append_assoc, add-one, refl, sym, ap, ◌∙◌}
use Rattle.pyr_machine.specs.Schedule.{again}

again_push : (n p : ℕ) → again n p ++ p ∷ [] ≡ again (suc n) p
again_push zero p = refl
again_push (suc n) p = ap (λ l. p ∷ l) (again_push n p)

pub again_more : (n p : ℕ) (front before after : List ℕ) → before ≡ front ++ again n p → after ≡ before ++ p ∷ [] → after ≡ front ++ again (n + 1) p
again_more n p front before after is more =
    more ∙ ap (λ l. l ++ p ∷ []) is ∙ append_assoc front (again n p) (p ∷ []) ∙ ap (λ l. front ++ l) (again_push n p) ∙ ap (λ m. front ++ again m p) (sym (add-one n))
