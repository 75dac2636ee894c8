-- The number that a text writes.
use Rattle.std.proofs.Common.{◌≡◌, ℕ, zero, suc, ◌<◌, ◌≤◌, ◌^◌, true, ◌&&◌, ltb, List, length, get_or, Option, Some, None, refl, sym, ap, ◌∙◌, subst, arith}
use Rattle.std.specs.Prelude.{decimal, SomeIff, bytes_eq}
use Rattle.std.specs.Str.Parse.{AllDigits, digits_value}
use Rattle.std.proofs.lemmas.Str.Parse.{IsNumeralModel, numerals_by_value, tells_digits, digit_at}
use Rattle.std.proofs.lemmas.Fmt.{decimal_is_IsNumeral, decimal_nonempty, decimal_digit, first_decimal, decimal-digits_value}
use Rattle.std.proofs.lemmas.Slice.Eq.{bytes_eq-Decides}
use Rattle.std.proofs.lemmas.Bool.Decides.{Decides-ltb}
use Rattle.std.proofs.lemmas.Option.{cond_some}
use Rattle.pyr_decimal.specs.Number.{number_of}
use Rattle.pyr_decimal.specs.Laws.{NumberIsDecimal}
use Rattle.pyr_decimal.proofs.Choices.{both, not_chosen}

own : IsNumeralModel (AllDigits 10) (digits_value 10)
own = numerals_by_value (AllDigits 10) tells_digits

-- the decimal of a number is read as that number
pub number_of-decimal : (n : ℕ) → n < 2 ^ 64 → number_of (decimal n) ≡ Some n
unfolding number_of
number_of-decimal n fits =
    let value : digits_value 10 (decimal n) ≡ n = (decimal_is_IsNumeral n fits).1 in
    let small : ltb n (2 ^ 64) ≡ true = (Decides-ltb n (2 ^ 64)).1 fits in
    let same : bytes_eq (decimal n) (decimal n) ≡ true = (bytes_eq-Decides (decimal n) (decimal n)).1 refl in
    rw (value, small, same) refl

-- what is read as a number is its decimal
pub number_of_only : (text : List ℕ) (n : ℕ) → number_of text ≡ Some n → (n < 2 ^ 64) × (text ≡ decimal n)
unfolding number_of
number_of_only text n h =
    let m : ℕ = digits_value 10 text in
    let found : ((ltb m (2 ^ 64) && bytes_eq (decimal m) text) ≡ true) × (m ≡ n) = cond_some (ltb m (2 ^ 64) && bytes_eq (decimal m) text) m n h in
    let parts : (ltb m (2 ^ 64) ≡ true) × (bytes_eq (decimal m) text ≡ true) = both (ltb m (2 ^ 64)) (bytes_eq (decimal m) text) found.0 in
    let small : m < 2 ^ 64 = (Decides-ltb m (2 ^ 64)).0 parts.0 in
    let same : decimal m ≡ text = (bytes_eq-Decides (decimal m) text).0 parts.1 in
    let e : m ≡ n = found.1 in
    (subst (λ (k : ℕ). k < 2 ^ 64) e small, sym same ∙ ap decimal e)

-- no number is read where no decimal stands
no_number : (text : List ℕ) → ((n : ℕ) → n < 2 ^ 64 → text ≡ decimal n → ⊥) → number_of text ≡ None
unfolding number_of
no_number text none =
    let m : ℕ = digits_value 10 text in
    not_chosen (ltb m (2 ^ 64) && bytes_eq (decimal m) text) m
    (λ h. let parts : (ltb m (2 ^ 64) ≡ true) × (bytes_eq (decimal m) text ≡ true) = both (ltb m (2 ^ 64)) (bytes_eq (decimal m) text) h in none m ((Decides-ltb m (2 ^ 64)).0 parts.0) (sym ((bytes_eq-Decides (decimal m) text).0 parts.1)))

pub number_is_decimal : NumberIsDecimal
number_is_decimal text n = (number_of_only text n, λ h. ap number_of h.1 ∙ number_of-decimal n h.0)

pub nothing_is_no_number : (text : List ℕ) → length text ≡ 0 → number_of text ≡ None
nothing_is_no_number text empty =
    no_number text (λ n fits e. let some = decimal_nonempty n fits in let l : length text ≡ length (decimal n) = ap length e in omega arith)

-- a decimal begins with `0` only where it is that alone
lone_zero : (n : ℕ) → n < 2 ^ 64 → get_or (decimal n) 0 0 ≡ 48 → length (decimal n) ≡ 1
lone_zero zero fits e = ap length (decimal_digit 0 (omega arith))
lone_zero (suc n) fits e = absurd (let first = first_decimal (suc n) (omega arith) fits in omega arith)

pub leading_zero_is_no_number : (text : List ℕ) → get_or text 0 0 ≡ 48 → 1 < length text → number_of text ≡ None
leading_zero_is_no_number text zero_first long =
    no_number text (λ n fits e. let one : length (decimal n) ≡ 1 = lone_zero n fits (ap (λ (x : List ℕ). get_or x 0 0) (sym e) ∙ zero_first) in let l : length text ≡ length (decimal n) = ap length e in omega arith)

-- digits without a leading zero are read
pub digits_are_number : (text : List ℕ) (o : Option ℕ) → 0 < length text → (get_or text 0 0 ≡ 48 → length text ≡ 1)
    → SomeIff o (AllDigits 10 text × (digits_value 10 text < 2 ^ 64)) (digits_value 10 text) → o ≡ number_of text
digits_are_number text (Some n) some lead h =
    let same : decimal (digits_value 10 text) ≡ text = decimal-digits_value own text h.0.0 some lead h.0.1 in
    ap (λ (k : ℕ). Some k) h.1 ∙ sym (number_of-decimal (digits_value 10 text) h.0.1) ∙ ap number_of same
digits_are_number text None some lead h =
    sym (no_number text (λ n fits e. let numeral = decimal_is_IsNumeral n fits in h (subst (AllDigits 10) (sym e) numeral.0.1, subst (λ (k : ℕ). k < 2 ^ 64) (sym (ap (digits_value 10) e ∙ numeral.1)) fits)))

-- a number begins with a digit
pub decimal_first : (n : ℕ) → n < 2 ^ 64 → get_or (decimal n) 0 0 ≤ 57
decimal_first n fits =
    let numeral = decimal_is_IsNumeral n fits in
    let some = decimal_nonempty n fits in
    (digit_at (decimal n) 0 numeral.0.1 some).1

pub no_number_above : (text : List ℕ) → 57 < get_or text 0 0 → number_of text ≡ None
no_number_above text above =
    no_number text (λ n fits e. let first = decimal_first n fits in let same : get_or text 0 0 ≡ get_or (decimal n) 0 0 = ap (λ (x : List ℕ). get_or x 0 0) e in omega arith)

-- what decides each answer of the reader
pub ruleset numerals = (nothing_is_no_number, leading_zero_is_no_number, digits_are_number)
