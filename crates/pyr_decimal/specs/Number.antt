-- Numbers as they are written: in decimal, without leading zeros.
use Rattle.std.specs.Prelude.{List, ℕ, ◌^◌, ◌&&◌, nat_lt, Option, Some, None, if◌then◌else◌, decimal, bytes_eq}
use Rattle.std.specs.Str.Parse.{digits_value}

-- the number below 2 ^ 64 whose decimal is this text, if there is one
unfoldable pub number_of : List ℕ → Option ℕ
number_of text =
    let n = digits_value 10 text in
    if nat_lt n (2 ^ 64) && bytes_eq (decimal n) text then Some n else None
