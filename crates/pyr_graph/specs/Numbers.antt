-- Lists of numbers: whether one stands in a list, those below a bound, and the greatest by a key.
use Rattle.std.specs.Prelude.{ℕ, zero, suc, max, Bool, List, [], ◌∷◌, ◌++◌, nat_eq, fold}
use Rattle.std.specs.List.{list_any}

-- whether this list holds the number
abbrev pub holds : List ℕ → ℕ → Bool
holds xs n = list_any (nat_eq n) xs

-- the numbers below n, rising
abbrev pub numbers : ℕ → List ℕ
numbers zero = []
numbers (suc n) = numbers n ++ n ∷ []

-- the greatest key of these, or 0 where there is none
abbrev pub greatest : (ℕ → ℕ) → List ℕ → ℕ
greatest key xs = fold (λ most x. max most (key x)) 0 xs
