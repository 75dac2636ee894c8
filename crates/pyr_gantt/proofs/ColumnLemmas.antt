-- The columns in which a task runs.
use Rattle.std.proofs.Common.{◌≡◌, ℕ, ◌+◌, ◌*◌, ◌/◌, ◌%◌, ◌<◌, ◌≤◌, min, Bool, true, false, inl, inr, refl, arith}
use Rattle.std.specs.Prelude.{nat_eq, nat_lt, nat_le, ◌&&◌}
use Rattle.std.proofs.lemmas.Bool.{cases_lt, cases_eq, lt-ltb, le-ltb, le-leb, lt-leb}
use Rattle.std.proofs.lemmas.Grind.{div_ceil_times}
use Rattle.std.proofs.Math.Nat.{div-lt_iff_lt-mul, mul-le-mul_right}
use Rattle.pyr_graph.proofs.ListLemmas.{nat_eq-same, nat_eq-apart}

-- a column ends after a start exactly from the start's part of the time on
pub first-column : (a time k : ℕ) → 0 < time → nat_lt a ((k + 1) * time) ≡ nat_le (a / time) k
first-column a time k some = elim (cases_lt a ((k + 1) * time)) [
  | inl less ↦
      let within : a / time < k + 1 = (div-lt_iff_lt-mul {k = time} {x = a} {y = k + 1} some).1 less in
      rw (lt-ltb a ((k + 1) * time) less, le-leb (a / time) k (omega arith))
  | inr past ↦ elim (cases_lt (a / time) (k + 1)) [
    | inl within ↦
        let less : a < (k + 1) * time = (div-lt_iff_lt-mul {k = time} {x = a} {y = k + 1} some).0 within in
        absurd (omega (arith, less, past))
    | inr later ↦ rw (le-ltb a ((k + 1) * time) past, lt-leb (a / time) k (omega arith))
  ]
]

module _ (b time : ℕ) (some : 0 < time) where
  -- a column begins before a finish exactly below the finish's part of the time, rounded up
  pub end-column : (k : ℕ) → nat_lt (k * time) b ≡ nat_lt k (b / time + min 1 (b % time))
  end-column k =
      let (above, below) = div_ceil_times b time some in
      elim (cases_lt k (b / time + min 1 (b % time))) [
        | inl less ↦
            let rises : (k + 1) * time ≤ (b / time + min 1 (b % time)) * time = mul-le-mul_right time (omega (arith, less)) in
            let before : k * time < b = omega (arith, rises, below) in
            rw (lt-ltb (k * time) b before, lt-ltb k (b / time + min 1 (b % time)) less)
        | inr past ↦
            let falls : (b / time + min 1 (b % time)) * time ≤ k * time = mul-le-mul_right time past in
            rw (le-ltb (k * time) b (omega (arith, falls, above)), le-ltb k (b / time + min 1 (b % time)) past)
      ]

  -- which is at most n for a finish within the time
  pub end-within : (n : ℕ) → b ≤ n * time → b / time + min 1 (b % time) ≤ n
  end-within n late = elim (cases_lt n (b / time + min 1 (b % time))) [
    | inr within ↦ within
    | inl less ↦
        let (above, below) = div_ceil_times b time some in
        let rises : (n + 1) * time ≤ (b / time + min 1 (b % time)) * time = mul-le-mul_right time (omega (arith, less)) in
        absurd (omega (arith, rises, below, late))
  ]

-- a place among the columns of processor p is among some columns of processor q
pub same-place : (q p k first end : ℕ) → k < 60 → end ≤ 60
    → (nat_le (q * 60 + first) (p * 60 + k) && nat_lt (p * 60 + k) (q * 60 + end)) ≡ (nat_eq q p && (nat_le first k && nat_lt k end))
same-place q p k first end k_in within = elim (cases_eq q p) [
  | inl same ↦ rw (nat_eq-same q p same, ← same) (inside q)
  | inr apart ↦ elim (cases_lt q p) [
    | inl below ↦ rw (nat_eq-apart q p apart, le-ltb (p * 60 + k) (q * 60 + end) (omega arith)) (and-false (nat_le (q * 60 + first) (p * 60 + k)))
    | inr above ↦
        let less : p < q = omega arith in
        rw (nat_eq-apart q p apart, lt-leb (q * 60 + first) (p * 60 + k) (omega arith))
  ]
]
  where
    and-false : (t : Bool) → (t && false) ≡ false
    and-false true = refl
    and-false false = refl

    inside : (n : ℕ) → (nat_le (n * 60 + first) (n * 60 + k) && nat_lt (n * 60 + k) (n * 60 + end)) ≡ (nat_le first k && nat_lt k end)
    inside n = rw (low n, high n)
      where
        low : (m : ℕ) → nat_le (m * 60 + first) (m * 60 + k) ≡ nat_le first k
        low m = elim (cases_lt k first) [
          | inl less ↦ rw (lt-leb first k less, lt-leb (m * 60 + first) (m * 60 + k) (omega arith))
          | inr past ↦ rw (le-leb first k past, le-leb (m * 60 + first) (m * 60 + k) (omega arith))
        ]

        high : (m : ℕ) → nat_lt (m * 60 + k) (m * 60 + end) ≡ nat_lt k end
        high m = elim (cases_lt k end) [
          | inl less ↦ rw (lt-ltb k end less, lt-ltb (m * 60 + k) (m * 60 + end) (omega arith))
          | inr past ↦ rw (le-ltb k end past, le-ltb (m * 60 + k) (m * 60 + end) (omega arith))
        ]
