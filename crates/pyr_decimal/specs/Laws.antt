-- The law of numbers.
use Rattle.std.specs.Prelude.{◌≡◌, ◌↔◌, ◌<◌, ◌^◌, ℕ, List, Some, decimal}
use Rattle.pyr_decimal.specs.Number.{number_of}

-- A number has one text, its decimal.
abbrev pub NumberIsDecimal : Type 0
NumberIsDecimal = (text : List ℕ) (n : ℕ)
    → (number_of text ≡ Some n) ↔ ((n < 2 ^ 64) × (text ≡ decimal n))
