-- One element goes from what is left to what is done.
use Rattle.std.proofs.Common.{◌≡◌, ◌+◌, ◌≤◌, List, [], ◌∷◌, ◌++◌, length, ap, sym, ◌∙◌, append_assoc, ℕ, arith}

-- there is still room for what is left
pub one_over : {X : Type 0} (n m cap cap' : ℕ) (x : X) (xs ys : List X) → ys ≡ x ∷ xs → n + length ys ≤ cap → m ≡ n + 1 → cap' ≡ cap → m + length xs ≤ cap'
one_over n m cap cap' x xs ys e h a b = let l = ap length e in omega arith

-- one element goes over as it is
pub moved : {X : Type 0} (done new : List X) (x y : X) (rest left all : List X) → done ++ rest ≡ all → rest ≡ x ∷ left → y ≡ x → new ≡ done ++ y ∷ [] → new ++ left ≡ all
moved done new x y rest left all e next is grown =
    ap (λ l. l ++ left) grown ∙ append_assoc done (y ∷ []) left ∙ ap (λ z. done ++ (z ∷ left)) is ∙ ap (λ l. done ++ l) (sym next) ∙ e
