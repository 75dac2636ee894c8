-- Texts that write a number in a range, and texts that write none.
use Rattle.std.proofs.Common.{◌≡◌, ◌≤◌, ◌<◌, ◌^◌, ℕ, List, Option, Some, None, unwrap_or, sym, ap, ◌∙◌, arith}
use Rattle.pyr_decimal.specs.Number.{number_of}
use Rattle.pyr_decimal.proofs.Numbers.{number_of-decimal, number_of_only}
use Rattle.pyr_top.specs.Numerals.{IsNumeralIn, NoNumeralIn}

-- what is read is the numeral
read_numeral : (text : List ℕ) (least most n : ℕ) → most < 2 ^ 64 → IsNumeralIn text least most n → number_of text ≡ Some n
read_numeral text least most n small is =
    ap number_of is.text_is ∙ number_of-decimal n (let at_most = is.most_at in omega (arith, at_most, small))

none_some : (n : ℕ) → None ≡ Some n → ⊥
none_some n e = absurd (cc)

-- where nothing is read, there is none
pub nothing_read : (text : List ℕ) (least most : ℕ) → most < 2 ^ 64 → number_of text ≡ None → NoNumeralIn text least most
nothing_read text least most small none n is = none_some n (sym none ∙ read_numeral text least most n small is)

-- where a number out of range is read, there is none
pub other_read : (text : List ℕ) (least most k : ℕ) → most < 2 ^ 64 → number_of text ≡ Some k → (least ≤ k → k ≤ most → ⊥) → NoNumeralIn text least most
other_read text least most k small read out n is =
    let same : k ≡ n = ap (λ (o : Option ℕ). unwrap_or o 0) (sym read ∙ read_numeral text least most n small is) in
    let at_least = is.least_at in
    let at_most = is.most_at in
    out (omega (arith, same, at_least)) (omega (arith, same, at_most))

-- a number in the range that is read
pub numeral_read : (text : List ℕ) (least most k : ℕ) → number_of text ≡ Some k → least ≤ k → k ≤ most → IsNumeralIn text least most k
numeral_read text least most k read at_least at_most =
    record { text_is = (number_of_only text k read).1; least_at = at_least; most_at = at_most }

-- what decides each answer of the reader
pub ruleset numerals = (nothing_read, other_read, numeral_read)
