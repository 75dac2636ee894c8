-- Numbers that are asked for by words.
use Rattle.std.specs.Prelude.{◌≡◌, ℕ, ◌≤◌, List, decimal}

-- the text is the decimal of this number, which is in the range
pub record IsNumeralIn (text : List ℕ) (least most number : ℕ) : Type 0 where
  pub text_is : text ≡ decimal number
  pub least_at : least ≤ number
  pub most_at : number ≤ most

-- the text is the decimal of no number in the range
abbrev pub NoNumeralIn : List ℕ → ℕ → ℕ → Type 0
NoNumeralIn text least most = (number : ℕ) → IsNumeralIn text least most number → ⊥
