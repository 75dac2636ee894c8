-- A letter with a number behind it is a name, and no two such names are the same.
use Rattle.std.proofs.Common.{◌≡◌, ◌≢◌, ℕ, ◌<◌, ◌≤◌, ◌^◌, Bool, true, false, not, ◌&&◌, List, [], ◌∷◌, length, get_or, arith, refl, IsTrue}
use Rattle.std.specs.Prelude.{nat_lt, nat_le, decimal}
use Rattle.std.specs.List.{list_all}
use Rattle.std.specs.Str.Parse.{AllDigits}
use Rattle.std.proofs.lemmas.Bool.{lt-ltb, le-leb, and_from, or_right, not_from_false}
use Rattle.std.proofs.lemmas.Fmt.{decimal_is_IsNumeral, decimal_nonempty, length-decimal-le, decimal_injective}
use Rattle.std.proofs.lemmas.Str.Parse.{digit_at, tells_digits}
use Rattle.pyr_num.specs.Name.{is_start, is_part, is_reserved, is_name}
use Rattle.pyr_graph.proofs.ListLemmas.{nat_eq-apart}
use Rattle.pyr_make.specs.Layered.{layered_datum_name, layered_task_name}

digit_is_part : (c : ℕ) → 48 ≤ c → c ≤ 57 → is_part c ≡ true
digit_is_part c low high = or_right (is_start c) (nat_le 48 c && nat_le c 57) (and_from (nat_le 48 c) (nat_le c 57) (le-leb 48 c low) (le-leb c 57 high))

digits_are_parts : (ds : List ℕ) → AllDigits 10 ds → list_all is_part ds ≡ true
digits_are_parts [] all = refl
digits_are_parts (c ∷ cs) all =
    let both = tells_digits.parts c cs all in
    and_from (is_part c) (list_all is_part cs) (digit_is_part c both.0.0 both.0.1) (digits_are_parts cs both.1)

-- no reserved word has a digit behind its first letter
d_not_reserved : (ds : List ℕ) → 0 < length ds → get_or ds 0 0 ≤ 57 → is_reserved (100 ∷ ds) ≡ false
d_not_reserved [] some low = absurd (omega (arith, some))
d_not_reserved (c ∷ cs) some low =
    rw (nat_eq-apart c 97 (omega (arith, low)), nat_eq-apart c 111 (omega (arith, low))) refl

t_not_reserved : (ds : List ℕ) → 0 < length ds → get_or ds 0 0 ≤ 57 → is_reserved (116 ∷ ds) ≡ false
t_not_reserved [] some low = absurd (omega (arith, some))
t_not_reserved (c ∷ cs) some low = rw (nat_eq-apart c 97 (omega (arith, low))) refl

named : (letter n : ℕ) → n < 2 ^ 64 → is_start letter ≡ true → is_part letter ≡ true → is_reserved (letter ∷ decimal n) ≡ false → IsTrue (is_name (letter ∷ decimal n))
named letter n fits start part free =
    let text : List ℕ = letter ∷ decimal n in
    let digits = (decimal_is_IsNumeral n fits).0.1 in
    let short : length (decimal n) ≤ 20 = length-decimal-le 20 n (omega arith) (omega arith) fits in
    let a : Bool = nat_lt 0 (length text) in
    let b : Bool = nat_le (length text) 32 in
    let d : Bool = list_all is_part text in
    and_from (a && b && is_start letter && d) (not (is_reserved text))
    (and_from (a && b && is_start letter) d
    (and_from (a && b) (is_start letter)
    (and_from a b (lt-ltb 0 (length text) (omega arith)) (le-leb (length text) 32 (omega arith)))
    start)
    (and_from (is_part letter) (list_all is_part (decimal n)) part (digits_are_parts (decimal n) digits)))
    (not_from_false (is_reserved text) free)

-- the first digit
low_first : (n : ℕ) → n < 2 ^ 64 → get_or (decimal n) 0 0 ≤ 57
low_first n fits = (digit_at (decimal n) 0 (decimal_is_IsNumeral n fits).0.1 (decimal_nonempty n fits)).1

pub datum_is_named : (n : ℕ) → n < 2 ^ 64 → IsTrue (is_name (layered_datum_name n))
datum_is_named n fits = named 100 n fits refl refl (d_not_reserved (decimal n) (decimal_nonempty n fits) (low_first n fits))

pub task_is_named : (n : ℕ) → n < 2 ^ 64 → IsTrue (is_name (layered_task_name n))
task_is_named n fits = named 116 n fits refl refl (t_not_reserved (decimal n) (decimal_nonempty n fits) (low_first n fits))

apart : (letter m n : ℕ) → m < n → n < 2 ^ 64 → (letter ∷ decimal m) ≢ (letter ∷ decimal n)
apart letter m n less fits same =
    let rest : decimal m ≡ decimal n = cc in
    let e : m ≡ n = decimal_injective m n (omega arith) fits rest in
    omega (arith, e, less)

pub datum_names_apart : (m n : ℕ) → m < n → n < 2 ^ 64 → layered_datum_name m ≢ layered_datum_name n
datum_names_apart m n less fits = apart 100 m n less fits

pub task_names_apart : (m n : ℕ) → m < n → n < 2 ^ 64 → layered_task_name m ≢ layered_task_name n
task_names_apart m n less fits = apart 116 m n less fits
