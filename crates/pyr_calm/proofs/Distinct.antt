-- No two channels of a bundle have the same processors: their pairs rise.
use Rattle.std.proofs.Common.{◌≡◌, ℕ, zero, suc, ◌+◌, ◌<◌, Bool, true, false, cond, List, [], ◌∷◌, ◌++◌, map, length, Some, slice_get, ◌⊎◌, inl, inr, refl, sym, ◌∙◌, ap, subst, arith}
use Rattle.std.specs.Prelude.{filter, nat_lt}
use Rattle.std.specs.List.{flat_map, range_with_len}
use Rattle.std.proofs.lemmas.List.{length-map, get_or-map}
use Rattle.std.proofs.lemmas.Option.{none-some, same_Some}
use Rattle.pyr_bundle.specs.declared.raw_instr.RawInstr.{RawInstr}
use Rattle.pyr_bundle.specs.declared.raw_channel.RawChannel.{RawChannel}
use Rattle.pyr_bundle.specs.Law.{IsKept}
use Rattle.pyr_bundle.specs.Laws.{send_count, pairs_from, pairs_of, channels}
use Rattle.pyr_bundle.specs.Parts.{Parts, raw_of, raw_channel_of, channel_at, no_channel}
use Rattle.pyr_bundle.proofs.ChannelLemmas.{pair_at}

-- the first pair is the smaller one
abbrev Before : ℕ × ℕ → ℕ × ℕ → Type 0
Before x y = (x.0 < y.0) ⊎ ((x.0 ≡ y.0) × (x.1 < y.1))

-- all of these are greater
abbrev AllAfter : ℕ × ℕ → List (ℕ × ℕ) → Type 0
AllAfter x [] = Unit {0}
AllAfter x (y ∷ ys) = Before x y × AllAfter x ys

abbrev Rising : List (ℕ × ℕ) → Type 0
Rising [] = Unit {0}
Rising (x ∷ xs) = AllAfter x xs × Rising xs

after_at : (x : ℕ × ℕ) (xs : List (ℕ × ℕ)) (j : ℕ) (y : ℕ × ℕ) → AllAfter x xs →
    slice_get xs j ≡ Some y → Before x y
after_at x [] j y h e = absurd (none-some _ e)
after_at x (z ∷ xs) zero y h e = subst (Before x) (same_Some _ _ e) h.0
after_at x (z ∷ xs) (suc j) y h e = after_at x xs j y h.1 e

rising_at : (xs : List (ℕ × ℕ)) (i j : ℕ) (x y : ℕ × ℕ) → Rising xs → i < j →
    slice_get xs i ≡ Some x → slice_get xs j ≡ Some y → Before x y
rising_at [] i j x y r l e f = absurd (none-some _ e)
rising_at (z ∷ xs) i zero x y r l e f = absurd (omega arith)
rising_at (z ∷ xs) zero (suc j) x y r l e f =
    subst (λ u. Before u y) (same_Some _ _ e) (after_at z xs j y r.0 f)
rising_at (z ∷ xs) (suc i) (suc j) x y r l e f = rising_at xs i j x y r.1 (omega arith) e f

after-append : (x : ℕ × ℕ) (xs ys : List (ℕ × ℕ)) → AllAfter x xs → AllAfter x ys →
    AllAfter x (xs ++ ys)
after-append x [] ys h k = k
after-append x (y ∷ xs) ys h k = (h.0, after-append x xs ys h.1 k)

-- The pairs of one processor.

-- those with a greater second
row_after : (p c m a : ℕ) (test : ℕ → Bool) → c < a →
    AllAfter (p, c) (map (λ q. (p, q)) (filter test (range_with_len a m)))
row_after p c zero a test l = tt
row_after p c (suc m) a test l = at (test a) (row_after p c m (a + 1) test (omega arith))
  where
    rest : List ℕ
    rest = filter test (range_with_len (a + 1) m)

    at : (b : Bool) → AllAfter (p, c) (map (λ q. (p, q)) rest) →
        AllAfter (p, c) (map (λ q. (p, q)) (cond b (a ∷ rest) rest))
    at true ih = (inr (refl, l), ih)
    at false ih = ih

row_rising : (p m a : ℕ) (test : ℕ → Bool) →
    Rising (map (λ q. (p, q)) (filter test (range_with_len a m)))
row_rising p zero a test = tt
row_rising p (suc m) a test = at (test a) (row_rising p m (a + 1) test)
  where
    rest : List ℕ
    rest = filter test (range_with_len (a + 1) m)

    at : (b : Bool) → Rising (map (λ q. (p, q)) rest) →
        Rising (map (λ q. (p, q)) (cond b (a ∷ rest) rest))
    at true ih = (row_after p a m (a + 1) test (omega arith), ih)
    at false ih = ih

-- those of a later processor
later_row : (x : ℕ × ℕ) (p : ℕ) (qs : List ℕ) → x.0 < p → AllAfter x (map (λ q. (p, q)) qs)
later_row x p [] l = tt
later_row x p (q ∷ qs) l = (inl l, later_row x p qs l)

-- The pairs of all processors.

rows_after : (x : ℕ × ℕ) (code : List (List RawInstr)) (m a : ℕ) → x.0 < a →
    AllAfter x (flat_map (pairs_from code) (range_with_len a m))
rows_after x code zero a l = tt
rows_after x code (suc m) a l =
    after-append x (pairs_from code a) (flat_map (pairs_from code) (range_with_len (a + 1) m))
    (later_row x a (filter (λ q. nat_lt 0 (send_count code a q)) (range_with_len 0 (length code))) l)
    (rows_after x code m (a + 1) (omega arith))

row-append : (p : ℕ) (qs : List ℕ) (ys : List (ℕ × ℕ)) → Rising (map (λ q. (p, q)) qs) →
    ((q : ℕ) → AllAfter (p, q) ys) → Rising ys → Rising (map (λ q. (p, q)) qs ++ ys)
row-append p [] ys r h s = s
row-append p (q ∷ qs) ys r h s =
    (after-append (p, q) (map (λ c. (p, c)) qs) ys r.0 (h q), row-append p qs ys r.1 h s)

rows_rising : (code : List (List RawInstr)) (m a : ℕ) →
    Rising (flat_map (pairs_from code) (range_with_len a m))
rows_rising code zero a = tt
rows_rising code (suc m) a =
    row-append a (filter (λ q. nat_lt 0 (send_count code a q)) (range_with_len 0 (length code)))
    (flat_map (pairs_from code) (range_with_len (a + 1) m))
    (row_rising a (length code) 0 (λ q. nat_lt 0 (send_count code a q)))
    (λ q. rows_after (a, q) code m (a + 1) (omega arith)) (rows_rising code m (a + 1))

apart : (x y : ℕ × ℕ) → Before x y → x.0 ≡ y.0 → x.1 ≡ y.1 → ⊥
apart x y (inl l) e f = omega (arith, l, e)
apart x y (inr l) e f = let m = l.1 in omega (arith, m, f)

-- two channels differ in a processor
pub channels_apart : (b : Parts) → IsKept (channels (raw_of b)) → (j i : ℕ) → j < i →
    i < length b.channels → (channel_at b j).from.0 ≡ (channel_at b i).from.0 →
    (channel_at b j).to.0 ≡ (channel_at b i).to.0 → ⊥
channels_apart b kept j i less l same_from same_to =
    apart (pair j k).0 (pair i l).0
    (rising_at (pairs_of (raw_of b).code) j i (pair j k).0 (pair i l).0
    (rows_rising (raw_of b).code (length (raw_of b).code) 0) less (pair j k).1 (pair i l).1)
    (sym (pair j k).2 ∙ same_from ∙ (pair i l).2) (sym (pair j k).3 ∙ same_to ∙ (pair i l).3)
  where
    k : j < length b.channels
    k = omega arith

    none : RawChannel
    none = raw_channel_of no_channel

    pair : (n : ℕ) → n < length b.channels →
        (x : ℕ × ℕ) × (slice_get (pairs_of (raw_of b).code) n ≡ Some x)
        × ((channel_at b n).from.0 ≡ x.0) × ((channel_at b n).to.0 ≡ x.1)
    pair n m =
        let count = length-map b.channels raw_channel_of in
        let x = pair_at (raw_of b) kept n none (omega (arith, m, count)) in
        let e = get_or-map raw_channel_of b.channels n no_channel none m in (
          x.0,
          x.1,
          ap (λ (c : RawChannel). c.from) (sym e) ∙ x.2,
          ap (λ (c : RawChannel). c.to) (sym e) ∙ x.3,
        )
