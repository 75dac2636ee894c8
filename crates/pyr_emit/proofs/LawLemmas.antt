-- The bundle of a plan keeps every law, and is within the limits.
use Rattle.std.proofs.Common.{◌≡◌, ◌≢◌, ℕ, suc, ◌<◌, ◌≤◌, ◌||◌, ◌==◌, Bool, true, false, not, List, [], ◌∷◌, length, take, get_or, All, inl, inr, refl, sym, ap, ◌∙◌, subst, arith}
use Rattle.std.specs.Prelude.{Option, Some, None, nat_eq, nat_lt, nat_le, AllPairs, sum_by, count_by, slice_get, slice_index, bytes_eq}
use Rattle.std.specs.List.{filter, flat_map, list_any, range_with_len}
use Rattle.std.specs.Option.{option_map}
use Rattle.std.proofs.lemmas.Bool.{eq-eqb, eqb-true, lt-ltb, ltb-true, le-leb, and_from, or_from, or_cases, not_from_false, false_from_ne_true}
use Rattle.std.proofs.lemmas.List.{get_or-take, length-take-le}
use Rattle.std.proofs.lemmas.List.Elements.{All-head, All-tail, All-map, All-nil, All-append, filter_passes}
use Rattle.std.proofs.lemmas.List.Sums.{sum_by_more_le, get_or-le-sum_by}
use Rattle.std.proofs.lemmas.Option.{slice_get-get_or, slice_get-map, get_or_from_slice_get, slice_get_within}
use Rattle.std.proofs.lemmas.Slice.Eq.{bytes_eq-Decides}
use Rattle.pyr_num.specs.declared.name.Name.{Name}
use Rattle.pyr_bundle.specs.declared.raw_instr.RawInstr.{RawInstr}
use Rattle.pyr_bundle.specs.declared.raw_instr.RawInstr.TheVariants.{Recv, Exec, Send}
use Rattle.pyr_bundle.specs.declared.raw_channel.RawChannel.{RawChannel}
use Rattle.pyr_bundle.specs.Law.{IsKept}
use Rattle.pyr_bundle.specs.Raw.{code_in}
use Rattle.pyr_bundle.specs.Laws.{is_new_name, is_new, fresh, is_send, is_receive, is_new_send, is_new_receive, by_instr, is_line_of, is_fine_capacity, send_count, pairs_from, pairs_of}
use Rattle.pyr_emit.specs.Emission.{channel_of, channels_of}
use Rattle.pyr_emit.proofs.SumLemmas.{one, any_counts}

-- an element that passes a test stands somewhere
pub any_place : {X : Type 0} (f : X → Bool) (xs : List X) (d : X) → list_any f xs ≡ true → (k : ℕ) × (k < length xs) × (f (get_or xs k d) ≡ true)
any_place f [] d is = absurd (let e : false ≡ true = is in cc)
any_place f (x ∷ xs) d is = elim (or_cases (f x) (list_any f xs) is) [
  | inl here ↦ (0, omega arith, here)
  | inr there ↦ (let (k, inside, passes) = any_place f xs d there in (suc k, omega (arith, inside), passes))
]

-- a number below the count that differs from all before it
pub new_number : (count : ℕ) (xs : List ℕ) → All (λ d. d < count) xs → AllPairs (λ d e. d ≢ e) xs → (i : ℕ) → i < length xs → is_new count xs i ≡ true
new_number count xs below apart i inside =
    and_from (nat_lt (slice_index xs i) count) (not (list_any (nat_eq (slice_index xs i)) (take i xs))) (lt-ltb (slice_index xs i) count (below i 0 inside))
    (not_from_false (list_any (nat_eq (slice_index xs i)) (take i xs)) (false_from_ne_true (list_any (nat_eq (slice_index xs i)) (take i xs)) old))
  where
    old : list_any (nat_eq (slice_index xs i)) (take i xs) ≡ true → ⊥
    old found =
        let (k, k_in, same) = any_place (nat_eq (slice_index xs i)) (take i xs) 0 found in
        let n = length-take-le i xs (omega (arith, inside)) in
        let less : k < i = omega (arith, k_in, n) in
        apart k i 0 less inside (sym (get_or-take i xs k 0 less) ∙ sym (eqb-true (slice_index xs i) (get_or (take i xs) k 0) same))

pub fresh_list : (count : ℕ) (xs : List ℕ) → All (λ d. d < count) xs → AllPairs (λ d e. d ≢ e) xs → IsKept (fresh count xs)
fresh_list count xs below apart = record { kept = λ a b row column. new_number count xs below apart a row }

-- a name that differs from all before it
pub new_name : (names : List Name) → AllPairs (λ a b. a ≢ b) names → (d : ℕ) → d < length names → is_new_name names d ≡ true
new_name names apart d inside =
    not_from_false (list_any (λ e. bytes_eq e (get_or names d [])) (take d names)) (false_from_ne_true (list_any (λ e. bytes_eq e (get_or names d [])) (take d names)) old)
  where
    old : list_any (λ e. bytes_eq e (get_or names d [])) (take d names) ≡ true → ⊥
    old found =
        let (k, k_in, same) = any_place (λ e. bytes_eq e (get_or names d [])) (take d names) [] found in
        let n = length-take-le d names (omega (arith, inside)) in
        let less : k < d = omega (arith, k_in, n) in
        apart k d [] less inside (sym (get_or-take d names k [] less) ∙ (bytes_eq-Decides (get_or (take d names) k []) (get_or names d [])).0 same)

-- where a count is at most 1, nothing that is counted stands before what is counted
pub none_before : {X : Type 0} (f : X → Bool) (g : X → ℕ) → ((x : X) → f x ≡ true → 1 ≤ g x) → (xs : List X) (i : ℕ) (d : X) → i < length xs → 1 ≤ g (get_or xs i d) → sum_by g xs ≤ 1 → list_any f (take i xs) ≡ false
none_before f g some xs i d inside here few =
    false_from_ne_true (list_any f (take i xs)) (λ found.
    let before = any_counts f g some (take i xs) found in
    let sum = sum_by_more_le g xs i d inside in
    omega (arith, before, here, sum, few))

one-some : {X : Type 0} (f : X → Bool) (x : X) → f x ≡ true → 1 ≤ one (f x)
one-some f x e = let h = ap one e in omega (arith, h)

module _ (code : List (List RawInstr)) where
  -- no datum is sent to a processor twice
  pub new_sends : ((q d : ℕ) → sum_by (count_by (is_send q d)) code ≤ 1) → IsKept (by_instr code (is_new_send code))
  new_sends once = record { kept = λ p i row column. at p i row column (get_or (code_in code p) i (Exec 0)) refl }
    where
      new_send : (p i : ℕ) → p < length code → i < length (code_in code p) → (instr : RawInstr) → get_or (code_in code p) i (Exec 0) ≡ instr → is_new_send code p i (Some instr) ≡ true
      new_send p i row column (Recv from d) is = refl
      new_send p i row column (Exec t) is = refl
      new_send p i row column (Send to d) is =
          let f : RawInstr → Bool = is_send to d in
          let self : f (Send to d) ≡ true = and_from (to == to) (d == d) (eq-eqb to to refl) (eq-eqb d d refl) in
          let here : f (get_or (code_in code p) i (Exec 0)) ≡ true = ap f is ∙ self in
          let some : 1 ≤ count_by f (code_in code p) = let h = one-some f (get_or (code_in code p) i (Exec 0)) here in let l = get_or-le-sum_by (λ x. one (f x)) (code_in code p) i (Exec 0) column in omega (arith, h, l) in
          let few : count_by f (code_in code p) ≤ 1 = let l = get_or-le-sum_by (count_by f) code p [] row in omega (arith, l, once to d) in
          not_from_false (list_any (list_any f) (take p code) || list_any f (take i (code_in code p)))
          (or_from (list_any (list_any f) (take p code)) (list_any f (take i (code_in code p)))
          (none_before (list_any f) (count_by f) (λ xs e. any_counts f (λ x. one (f x)) (one-some f) xs e) code p [] row some (once to d))
          (none_before f (λ x. one (f x)) (one-some f) (code_in code p) i (Exec 0) column (one-some f (get_or (code_in code p) i (Exec 0)) here) few))

      at : (p i : ℕ) → p < length code → i < length (code_in code p) → (instr : RawInstr) → get_or (code_in code p) i (Exec 0) ≡ instr → is_new_send code p i (slice_get (code_in code p) i) ≡ true
      at p i row column instr is = ap (is_new_send code p i) (slice_get-get_or (code_in code p) i (Exec 0) column ∙ ap Some is) ∙ new_send p i row column instr is

  -- none is received twice on a processor
  pub new_receives : ((p d : ℕ) → p < length code → count_by (is_receive d) (code_in code p) ≤ 1) → IsKept (by_instr code (is_new_receive code))
  new_receives once = record { kept = λ p i row column. at p i row column (get_or (code_in code p) i (Exec 0)) refl }
    where
      new_receive : (p i : ℕ) → p < length code → i < length (code_in code p) → (instr : RawInstr) → get_or (code_in code p) i (Exec 0) ≡ instr → is_new_receive code p i (Some instr) ≡ true
      new_receive p i row column (Send to d) is = refl
      new_receive p i row column (Exec t) is = refl
      new_receive p i row column (Recv from d) is =
          let f : RawInstr → Bool = is_receive d in
          let self : f (Recv from d) ≡ true = eq-eqb d d refl in
          let here : f (get_or (code_in code p) i (Exec 0)) ≡ true = ap f is ∙ self in
          not_from_false (list_any f (take i (code_in code p)))
          (none_before f (λ x. one (f x)) (one-some f) (code_in code p) i (Exec 0) column (one-some f (get_or (code_in code p) i (Exec 0)) here) (once p d row))

      at : (p i : ℕ) → p < length code → i < length (code_in code p) → (instr : RawInstr) → get_or (code_in code p) i (Exec 0) ≡ instr → is_new_receive code p i (slice_get (code_in code p) i) ≡ true
      at p i row column instr is = ap (is_new_receive code p i) (slice_get-get_or (code_in code p) i (Exec 0) column ∙ ap Some is) ∙ new_receive p i row column instr is

  -- the channels are those of the pairs, with room for all sends
  pub line_at : (i : ℕ) → is_line_of (slice_get (channels_of code) i) (slice_get (pairs_of code) i) ≡ true
  line_at i = ap (λ (c : Option RawChannel). is_line_of c (slice_get (pairs_of code) i)) (slice_get-map (channel_of code) (pairs_of code) i) ∙ at (slice_get (pairs_of code) i)
    where
      at : (pair : Option (ℕ × ℕ)) → is_line_of (option_map (channel_of code) pair) pair ≡ true
      at None = refl
      at (Some pair) = and_from (pair.0 == pair.0) (pair.1 == pair.1) (eq-eqb pair.0 pair.0 refl) (eq-eqb pair.1 pair.1 refl)

  -- each pair has a send

  pieces_all : {X : Type 0} (Q : X → Type 0) (g : ℕ → List X) (xs : List ℕ) → All (λ x. All Q (g x)) xs → All Q (flat_map g xs)
  pieces_all Q g [] all = All-nil Q
  pieces_all Q g (x ∷ xs) all =
      All-append Q (g x) (flat_map g xs) (All-head (λ y. All Q (g y)) x xs all) (pieces_all Q g xs (All-tail (λ y. All Q (g y)) x xs all))

  pairs_linked : All (λ (pair : ℕ × ℕ). 0 < send_count code pair.0 pair.1) (pairs_of code)
  pairs_linked =
      pieces_all (λ (pair : ℕ × ℕ). 0 < send_count code pair.0 pair.1) (pairs_from code) (range_with_len 0 (length code))
      (λ k d inside. row (get_or (range_with_len 0 (length code)) k d))
    where
      row : (p : ℕ) → All (λ (pair : ℕ × ℕ). 0 < send_count code pair.0 pair.1) (pairs_from code p)
      row p =
          let f : ℕ → Bool = λ q. nat_lt 0 (send_count code p q) in
          All-map (λ (pair : ℕ × ℕ). 0 < send_count code pair.0 pair.1) (λ q. (p, q)) (filter f (range_with_len 0 (length code)))
          (λ k d inside. ltb-true 0 (send_count code p (get_or (filter f (range_with_len 0 (length code))) k d)) (filter_passes f (range_with_len 0 (length code)) k d inside))

  pub capacity_at : (i : ℕ) → is_fine_capacity code (slice_get (channels_of code) i) ≡ true
  capacity_at i = ap (is_fine_capacity code) (slice_get-map (channel_of code) (pairs_of code) i) ∙ at (slice_get (pairs_of code) i) refl
    where
      at : (pair : Option (ℕ × ℕ)) → slice_get (pairs_of code) i ≡ pair → is_fine_capacity code (option_map (channel_of code) pair) ≡ true
      at None is = refl
      at (Some pair) is =
          let count = send_count code pair.0 pair.1 in
          let some = subst (λ (x : ℕ × ℕ). 0 < send_count code x.0 x.1) (get_or_from_slice_get (pairs_of code) i pair pair is) (pairs_linked i pair (slice_get_within (pairs_of code) i pair is)) in
          and_from (nat_le 1 count) (nat_le count count) (le-leb 1 count (omega (arith, some))) (le-leb count count (omega arith))
