-- The count of faults, call by call.
use Rattle.std.proofs.Common.{◌≡◌, ◌⊎◌, ℕ, zero, suc, ◌+◌, ◌-◌, ◌^◌, ◌<◌, ◌≤◌, Bool, true, false, ◌||◌, nat_lt, List, Option, Some, None, is_some, unwrap_or, cond, ◌==◌, inl, inr, refl, sym, ap, ◌∙◌, arith, Ok, Err}
use Rattle.std.proofs.lemmas.Bool.Decides.{nat_tests}
use Rattle.std.proofs.lemmas.Bool.{cases_lt}
use Rattle.pyr_port.specs.Causes.{HasCause, Rose}
use Rattle.pyr_port.specs.Plans.{counted, faults_of, is_planned, is_after, fails_at, next_call}

choose_other : (b : Bool) (x y : ℕ) → b ≡ false → cond b x y ≡ y
choose_other true x y e = cc
choose_other false x y e = refl

not_last : (n : ℕ) → n < 2 ^ 64 - 1 → (n == 2 ^ 64 - 1) ≡ false
not_last n below = grind (arith, nat_tests)

-- below the last number the faults are those that pass the test
faults_below : (test : ℕ → Bool) (n : ℕ) → n < 2 ^ 64 - 1 → faults_of test n ≡ counted test n
faults_below test n below = choose_other (n == 2 ^ 64 - 1) (2 ^ 64 - 1) (counted test n) (not_last n below)

-- at the last number they are that number
faults_last : (test : ℕ → Bool) (n : ℕ) → n ≡ 2 ^ 64 - 1 → faults_of test n ≡ 2 ^ 64 - 1
faults_last test n last = ap (faults_of test) last

counted_next : (test : ℕ → Bool) (n : ℕ) → counted test (suc n) ≡ counted test n + cond (test (suc n)) 1 0
unfolding counted
counted_next test n = refl

at_most_one : (b : Bool) → cond b 1 0 ≤ 1
at_most_one true = omega arith
at_most_one false = omega arith

one_where : (b : Bool) → b ≡ true → 1 ≤ cond b 1 0
one_where true e = omega arith
one_where false e = cc

counted_within : (test : ℕ → Bool) (n : ℕ) → counted test n ≤ n
unfolding counted
counted_within test zero = omega arith
counted_within test (suc n) = omega (arith, counted_within test n, at_most_one (test (suc n)))

-- The faults before and after one more call: the next number is the last one, or one more, which the test tells.
module _ (test : ℕ → Bool) (calls : ℕ) (within : calls ≤ 2 ^ 64 - 1) where
  faults_within : faults_of test calls ≤ 2 ^ 64 - 1
  faults_within =
      elim (cases_lt calls (2 ^ 64 - 1)) [
        | inl below ↦ omega (arith, faults_below test calls below, counted_within test calls)
        | inr last ↦ let at : calls ≡ 2 ^ 64 - 1 = omega arith in omega (arith, faults_last test calls at)
      ]

  faults_step : (suc calls < 2 ^ 64 - 1) → faults_of test (next_call calls) ≡ faults_of test calls + cond (test (next_call calls)) 1 0
  faults_step more =
      let next : next_call calls ≡ suc calls = omega arith in
      let low : calls < 2 ^ 64 - 1 = omega arith in
      ap (faults_of test) next
      ∙ faults_below test (suc calls) more
      ∙ counted_next test calls
      ∙ ap (λ (n : ℕ). counted test calls + cond (test n) 1 0) (sym next)
      ∙ ap (λ (n : ℕ). n + cond (test (next_call calls)) 1 0) (sym (faults_below test calls low))

  faults_end : 2 ^ 64 - 1 ≤ suc calls → faults_of test (next_call calls) ≡ 2 ^ 64 - 1
  faults_end last = let next : next_call calls ≡ 2 ^ 64 - 1 = omega arith in faults_last test (next_call calls) next

  -- they never fall
  pub faults_later : faults_of test calls ≤ faults_of test (next_call calls)
  faults_later =
      elim (cases_lt (suc calls) (2 ^ 64 - 1)) [
        | inl more ↦ omega (arith, faults_step more)
        | inr last ↦ omega (arith, faults_end last, faults_within)
      ]

  -- a call that passes the test raises them, or they stand at the last number
  faults_rose : (next_call calls < 2 ^ 64 - 1 → test (next_call calls) ≡ true) → Rose (faults_of test calls) (faults_of test (next_call calls))
  faults_rose fails =
      elim (cases_lt (suc calls) (2 ^ 64 - 1)) [
        | inl more ↦ omega (arith, faults_step more, one_where (test (next_call calls)) (fails (omega arith)))
        | inr last ↦ omega (arith, faults_end last, faults_within)
      ]

  pub cause_failed : {T E : Type 0} (e : E) → (next_call calls < 2 ^ 64 - 1 → test (next_call calls) ≡ true) → HasCause {T = T} {E = E} (faults_of test calls) (faults_of test (next_call calls)) (Err e)
  cause_failed e fails = record { later = faults_later; failed = faults_rose fails }

  pub cause_fine : {T E : Type 0} (x : T) → HasCause {T = T} {E = E} (faults_of test calls) (faults_of test (next_call calls)) (Ok x)
  cause_fine x = record { later = faults_later; failed = tt }

-- each call after the one that used up the room comes after it
after_all : (used_up : Option ℕ) (number : ℕ) → unwrap_or used_up 0 < number → is_after used_up number ≡ is_some used_up
after_all None number later = refl
after_all (Some n) number later = grind (arith, nat_tests)

not_yet : (number k : ℕ) → k ≤ number → nat_lt number k ≡ false
not_yet number k within = grind (arith, nat_tests)

same_until : (fail : List ℕ) (number n : ℕ) → n ≤ number → counted (fails_at fail None) n ≡ counted (fails_at fail (Some number)) n
unfolding counted
same_until fail number zero within = refl
same_until fail number (suc n) within =
    let before : counted (fails_at fail None) n ≡ counted (fails_at fail (Some number)) n = same_until fail number n (omega (arith, within)) in
    let now : fails_at fail None (suc n) ≡ fails_at fail (Some number) (suc n) = ap (λ (b : Bool). is_planned fail (suc n) || b) (sym (not_yet number (suc n) within)) in
    λ i. before i + cond (now i) 1 0

-- up to the call that uses up the room the faults are those of the plan
same_faults : (fail : List ℕ) (number : ℕ) → number ≤ 2 ^ 64 - 1 → faults_of (fails_at fail None) number ≡ faults_of (fails_at fail (Some number)) number
same_faults fail number within =
    elim (cases_lt number (2 ^ 64 - 1)) [
      | inl below ↦ faults_below (fails_at fail None) number below ∙ same_until fail number number (omega arith) ∙ sym (faults_below (fails_at fail (Some number)) number below)
      | inr last ↦ let at : number ≡ 2 ^ 64 - 1 = omega arith in faults_last (fails_at fail None) number at ∙ sym (faults_last (fails_at fail (Some number)) number at)
    ]

-- a sink's call that the plan fails, or that finds no room
pub sink_failed : {T E : Type 0} (fail : List ℕ) (used_up : Option ℕ) (calls : ℕ) (e : E) → calls ≤ 2 ^ 64 - 1 → unwrap_or used_up 0 ≤ calls → (is_planned fail (next_call calls) || is_some used_up) ≡ true
    → HasCause {T = T} {E = E} (faults_of (fails_at fail used_up) calls) (faults_of (fails_at fail used_up) (next_call calls)) (Err e)
sink_failed fail used_up calls e within past fails =
    cause_failed (fails_at fail used_up) calls within e
    (λ more. let later : unwrap_or used_up 0 < next_call calls = omega arith in ap (λ (b : Bool). is_planned fail (next_call calls) || b) (after_all used_up (next_call calls) later) ∙ fails)

-- a sink's call that uses up the room
pub sink_filled : {T E : Type 0} (fail : List ℕ) (calls : ℕ) (x : T) → calls ≤ 2 ^ 64 - 1
    → HasCause {T = T} {E = E} (faults_of (fails_at fail None) calls) (faults_of (fails_at fail (Some (next_call calls))) (next_call calls)) (Ok x)
sink_filled fail calls x within =
    let next : next_call calls ≤ 2 ^ 64 - 1 = omega arith in
    record { later = omega (arith, faults_later (fails_at fail None) calls within, same_faults fail (next_call calls) next); failed = tt }

pub either_way : (a b : Bool) → (a ≡ true) ⊎ (b ≡ true) → (a || b) ≡ true
either_way true b h = refl
either_way false b (inl h) = cc
either_way false b (inr h) = h

pub none_is : {A : Type 0} (o : Option A) → is_some o ≡ false → o ≡ None
none_is None h = refl
none_is (Some x) h = cc
