-- Rows that grow by one element that is always the same.
use Rattle.std.proofs.Common.{◌≡◌, ℕ, ◌+◌, List, [], ◌∷◌, ◌++◌, map, replicate, ap, ◌∙◌}
use Rattle.std.proofs.lemmas.List.{map_push, replicate_more}

pub one_more_seen : {X Y : Type 0} (f : X → Y) (n : ℕ) (y : Y) (x : X) (old new : List X) → map f old ≡ replicate n y → new ≡ old ++ x ∷ [] → f x ≡ y → map f new ≡ replicate (n + 1) y
one_more_seen f n y x old new so_far grown is =
    ap (λ l. map f l) grown ∙ map_push f old x ∙ ap (λ z. map f old ++ z ∷ []) is ∙ ap (λ l. l ++ y ∷ []) so_far ∙ replicate_more n y

pub one_more_same : {X : Type 0} (n : ℕ) (y x : X) (old new : List X) → old ≡ replicate n y → new ≡ old ++ x ∷ [] → x ≡ y → new ≡ replicate (n + 1) y
one_more_same n y x old new so_far grown is =
    grown ∙ ap (λ z. old ++ z ∷ []) is ∙ ap (λ l. l ++ y ∷ []) so_far ∙ replicate_more n y
