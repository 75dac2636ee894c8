-- Reading digits from the left.
use Rattle.std.proofs.Common.{◌≡◌, ℕ, ◌+◌, ◌*◌, ◌<◌, ◌≤◌, ◌^◌, List, [], ◌∷◌, length, get_or, drop, subst, arith}
use Rattle.std.proofs.lemmas.List.{drop_all, drop_more}
use Rattle.std.specs.Char.{digit_value}
use Rattle.std.specs.Str.Parse.{AllDigits, digits_value, digits_value_after}

-- The number of the digits read so far, where these are left to read.
pub record GoesOn (text : List ℕ) (number : ℕ) (rest : List ℕ) : Type 0 where
  pub value : digits_value_after 10 number rest ≡ digits_value 10 text
  pub to : AllDigits 10 text → AllDigits 10 rest
  pub from : AllDigits 10 rest → AllDigits 10 text
  pub fits : number < 2 ^ 64

-- what was read is no more than the whole
pub value_grows : (n : ℕ) (ds : List ℕ) → n ≤ digits_value_after 10 n ds
value_grows n [] = omega arith
value_grows n (d ∷ ds) = omega (arith, value_grows (n * 10 + digit_value d) ds)

-- no digit, or one too many
pub stops : (text : List ℕ) (number i : ℕ) → i < length text → (let d = get_or text i 0 in ¬ ((digit_value d < 10) × (number * 10 + digit_value d < 2 ^ 64)))
    → GoesOn text number (drop i text) → ¬ (AllDigits 10 text × (digits_value 10 text < 2 ^ 64))
stops text number i within bad h = λ both.
    let d : ℕ = get_or text i 0 in
    let rest : List ℕ = drop (i + 1) text in
    let left : GoesOn text number (d ∷ rest) = subst (GoesOn text number) (drop_more text i 0 within) h in
    let digits : AllDigits 10 (d ∷ rest) = left.to both.0 in
    let whole : digits_value_after 10 (number * 10 + digit_value d) rest ≡ digits_value 10 text = left.value in
    let grows = value_grows (number * 10 + digit_value d) rest in
    let small = both.1 in
    bad (digits.0, omega arith)

-- all are read
pub ends : (text : List ℕ) (number i : ℕ) → length text ≤ i → GoesOn text number (drop i text) → (AllDigits 10 text × (digits_value 10 text < 2 ^ 64)) × (number ≡ digits_value 10 text)
ends text number i all h =
    let none : drop i text ≡ [] = drop_all i text all in
    let g : GoesOn text number [] = subst (GoesOn text number) none h in
    let value = g.value in
    let fits = g.fits in
    ((g.from tt, omega arith), value)
