-- Lists that a loop makes of another one, item by item.
use Rattle.std.proofs.Common.{◌≡◌, ℕ, ◌+◌, ◌<◌, ◌≤◌, List, [], ◌∷◌, ◌++◌, map, take, length, get_or, sym, ap, ◌∙◌}
use Rattle.std.proofs.lemmas.List.{map_more, take_all}

-- one item more
pub one_more : {X Y : Type 0} (f : X → Y) (xs : List X) (k : ℕ) (d : X) (made new : List Y) (y : Y) → k < length xs → made ≡ map f (take k xs) → y ≡ f (get_or xs k d) → new ≡ made ++ y ∷ [] → new ≡ map f (take (k + 1) xs)
one_more {X} {Y} f xs k d made new y l m e n =
    n ∙ ap (λ (ys : List Y). ys ++ y ∷ []) m ∙ ap (λ (z : Y). map f (take k xs) ++ z ∷ []) e ∙ sym (map_more f xs k d l)

-- all items
pub all_made : {X Y : Type 0} (f : X → Y) (xs : List X) (k : ℕ) (made : List Y) → length xs ≤ k → made ≡ map f (take k xs) → made ≡ map f xs
all_made f xs k made l m = m ∙ ap (map f) (take_all k xs l)
