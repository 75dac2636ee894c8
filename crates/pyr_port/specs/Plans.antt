-- Which calls of an object in memory fail, and how many did.
use Rattle.std.specs.Prelude.{ℕ, zero, suc, ◌+◌, ◌-◌, ◌^◌, Bool, false, ◌||◌, ◌==◌, nat_lt, min, if◌then◌else◌, List, Option, Some, None}
use Rattle.std.specs.List.{list_any}

-- the number of the call after so many, as far as the counter goes
abbrev pub next_call : ℕ → ℕ
next_call calls = min (calls + 1) (2 ^ 64 - 1)

-- the number stands in the list
abbrev pub is_planned : List ℕ → ℕ → Bool
is_planned fail number = list_any (λ planned. planned == number) fail

-- the number comes after the call that used up the room
abbrev pub is_after : Option ℕ → ℕ → Bool
is_after None number = false
is_after (Some used_up) number = nat_lt used_up number

-- a sink's call fails where it is planned, or where it comes after the one that used up the room
abbrev pub fails_at : List ℕ → Option ℕ → ℕ → Bool
fails_at fail used_up number = is_planned fail number || is_after used_up number

-- how many of the numbers from 1 to n pass the test
unfoldable pub counted : (ℕ → Bool) → ℕ → ℕ
counted test zero = 0
counted test (suc n) = counted test n + (if test (suc n) then 1 else 0)

-- the faults after so many calls: those that pass the test; at the counter's last number, that number
abbrev pub faults_of : (ℕ → Bool) → ℕ → ℕ
faults_of test calls = if calls == 2 ^ 64 - 1 then 2 ^ 64 - 1 else counted test calls
