-- The printed data: the last layer is one range of numbers.
use Rattle.std.proofs.Common.{◌≡◌, ◌≢◌, ℕ, zero, suc, ◌+◌, ◌-◌, ◌*◌, ◌/◌, ◌<◌, ◌≤◌, Bool, true, false, List, [], ◌∷◌, ◌++◌, length, arith, refl, ap, ◌∙◌, None}
use Rattle.std.specs.Prelude.{nat_eq, filter}
use Rattle.std.specs.List.{list_any, range_with_len, AllByRecursion}
use Rattle.std.proofs.lemmas.List.Elements.{filter-append}
use Rattle.std.proofs.lemmas.List.{length-map}
use Rattle.std.proofs.lemmas.List.FromFn.{length-range_with_len, map-range_with_len_more}
use Rattle.pyr_num.specs.declared.ids.DatumId.{DatumId}
use Rattle.pyr_graph.specs.Faults.{first_repeated}
use Rattle.pyr_graph.proofs.ListLemmas.{nat_eq-same, nat_eq-apart}
use Rattle.pyr_make.specs.Layered.{layer_of, layered_prints, as_datums}

range_split : (a m n : ℕ) → range_with_len a (m + n) ≡ range_with_len a m ++ range_with_len (a + m) n
range_split a zero n =
    let e : zero + n ≡ n = omega arith in
    let f : a + zero ≡ a = omega arith in
    rw (e, f) refl
range_split a (suc m) n =
    let e : suc m + n ≡ suc (m + n) = omega arith in
    let f : a + suc m ≡ (a + 1) + m = omega arith in
    rw (e, f) (ap (λ (rest : List ℕ). a ∷ rest) (range_split (a + 1) m n))

module _ (p : ℕ → Bool) where
  none_kept : (a n : ℕ) → ((d : ℕ) → a ≤ d → d < a + n → p d ≡ false) → filter p (range_with_len a n) ≡ []
  none_kept a zero none = refl
  none_kept a (suc n) none =
      let here : p a ≡ false = none a (omega arith) (omega arith) in
      rw here (none_kept (a + 1) n (λ d low high. none d (omega arith) (omega arith)))

  all_kept : (a n : ℕ) → ((d : ℕ) → a ≤ d → d < a + n → p d ≡ true) → filter p (range_with_len a n) ≡ range_with_len a n
  all_kept a zero all = refl
  all_kept a (suc n) all =
      let here : p a ≡ true = all a (omega arith) (omega arith) in
      rw here (ap (λ (rest : List ℕ). a ∷ rest) (all_kept (a + 1) n (λ d low high. all d (omega arith) (omega arith))))

-- the first task of the last layer
abbrev pub last_layer_from : ℕ → ℕ
last_layer_from n = 64 * ((n - 1) / 64)

pub prints-range : (n : ℕ) → 0 < n → layered_prints n ≡ range_with_len (last_layer_from n) (n - last_layer_from n)
prints-range n some =
    let first : ℕ = last_layer_from n in
    let p : ℕ → Bool = λ d. nat_eq (layer_of d) (layer_of (n - 1)) in
    let whole : n ≡ first + (n - first) = omega arith in
    let split : range_with_len 0 n ≡ range_with_len 0 first ++ range_with_len first (n - first) =
    ap (range_with_len 0) whole ∙ range_split 0 first (n - first) ∙ ap (λ (k : ℕ). range_with_len 0 first ++ range_with_len k (n - first)) (omega arith) in
    ap (filter p) split ∙ filter-append p (range_with_len 0 first) (range_with_len first (n - first))
    ∙ ap (λ (front : List ℕ). front ++ filter p (range_with_len first (n - first))) (none_kept p 0 first (λ d low high. nat_eq-apart (layer_of d) (layer_of (n - 1)) (omega arith)))
    ∙ all_kept p first (n - first) (λ d low high. nat_eq-same (layer_of d) (layer_of (n - 1)) (omega arith))

-- a range has no number twice, and ends where it does
absent : (x a n : ℕ) → x < a → list_any (nat_eq x) (range_with_len a n) ≡ false
absent x a zero less = refl
absent x a (suc n) less =
    let apart : x ≢ a = omega arith in
    rw (nat_eq-apart x a apart) (absent x (a + 1) n (omega arith))

pub range_once : (a n : ℕ) → first_repeated (range_with_len a n) ≡ None
range_once a zero = refl
range_once a (suc n) = rw (absent a (a + 1) n (omega arith)) (range_once (a + 1) n)

pub range_below : (a n most : ℕ) → a + n ≤ most → AllByRecursion (λ d. d < most) (range_with_len a n)
range_below a zero most le = tt
range_below a (suc n) most le = (omega arith, range_below (a + 1) n most (omega arith))

-- one number more
pub range_more : (a i : ℕ) → a ≤ i → as_datums (range_with_len a (i + 1 - a)) ≡ as_datums (range_with_len a (i - a)) ++ (record { 0 = i }) ∷ []
range_more a i le =
    let e : i + 1 - a ≡ (i - a) + 1 = omega arith in
    rw e (map-range_with_len_more (λ (k : ℕ). let d : DatumId = record { 0 = k } in d) a (i - a) i (omega arith))

-- there are no more printed data than tasks
pub prints_few : (n : ℕ) → 0 < n → length (as_datums (layered_prints n)) ≤ n
prints_few n some =
    let count = length-map (layered_prints n) (λ (k : ℕ). let d : DatumId = record { 0 = k } in d) in
    let same : length (layered_prints n) ≡ n - last_layer_from n = ap (λ (xs : List ℕ). length xs) (prints-range n some) ∙ length-range_with_len (last_layer_from n) (n - last_layer_from n) in
    omega (arith, count, same)
