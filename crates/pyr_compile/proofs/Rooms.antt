-- Each channel of a plan has room for all its sends.
use Rattle.std.proofs.Common.{◌≡◌, ℕ, zero, suc, ◌+◌, ◌<◌, ◌≤◌, ◌==◌, ◌&&◌, ◌||◌, Bool, true, false, cond, if◌then◌else◌, List, [], ◌∷◌, ◌++◌, length, map, inl, inr, ◌⊎◌, refl, sym, ap, ◌∙◌, subst, arith}
use Rattle.std.specs.Prelude.{nat_lt, count_by, slice_index}
use Rattle.std.specs.List.{filter, flat_map, list_any, range_with_len}
use Rattle.std.proofs.lemmas.Bool.{cases_lt, eq-eqb, ne_eqb, lt-ltb, and_parts, and_from, or_left, or_right, or_cases, eqb-true}
use Rattle.std.proofs.lemmas.List.{get_or_past}
use Rattle.std.proofs.lemmas.List.Elements.{All-weaker}
use Rattle.std.proofs.lemmas.List.FromFn.{length-range_with_len, get_or-range_with_len, get_or-map-range_with_len, length-map-range_with_len}
use Rattle.pyr_seq.specs.Walk.{IsTopological}
use Rattle.pyr_graph.specs.declared.placement.Placement.{Placement}
use Rattle.pyr_graph.specs.System.{System, task_count, datum_count, IsEdge}
use Rattle.pyr_graph.specs.WholeGraph.{IsGraph}
use Rattle.pyr_rcp.specs.Order.{IsPlaced}
use Rattle.pyr_bundle.specs.declared.raw_instr.RawInstr.{RawInstr}
use Rattle.pyr_bundle.specs.declared.raw_instr.RawInstr.TheVariants.{Recv, Exec, Send}
use Rattle.pyr_bundle.specs.declared.raw_channel.RawChannel.{RawChannel}
use Rattle.pyr_bundle.specs.declared.capacity.Capacity.{Capacity}
use Rattle.pyr_bundle.specs.Laws as laws
use Rattle.pyr_bundle.specs.Parts.{Parts, raw_of, raw_channel_of, processor_count, code_at, instr_of}
use Rattle.pyr_machine.specs.Machine.{capacity_in}
use Rattle.pyr_machine.specs.Schedule.{tally, is_send_to, HoldsAllSends}
use Rattle.pyr_emit.specs.Emission.{code_on, codes, channel_of, channels_of}
use Rattle.pyr_emit.proofs.FineLemmas.{IsFine, code_fine, none_counted}
use Rattle.pyr_compile.proofs.Matched.{counted}

-- the capacity of the channel from p to q among raw channels
abbrev raw_capacity : List RawChannel → ℕ → ℕ → ℕ
raw_capacity [] p q = 0
raw_capacity (c ∷ cs) p q = if (c.from == p) && (c.to == q) then c.capacity else raw_capacity cs p q

raw_capacity_is : (cs : List Capacity) (p q : ℕ) → capacity_in cs p q ≡ raw_capacity (map raw_channel_of cs) p q
raw_capacity_is [] p q = refl
raw_capacity_is (c ∷ cs) p q = ap (cond ((c.from.0 == p) && (c.to.0 == q)) c.capacity) (raw_capacity_is cs p q)

abbrev is_pair : ℕ → ℕ → ℕ × ℕ → Bool
is_pair p q pair = (pair.0 == p) && (pair.1 == q)

-- where the pair is there, its capacity is its number of sends
capacity_there : (code : List (List RawInstr)) (pairs : List (ℕ × ℕ)) (p q : ℕ) → list_any (is_pair p q) pairs ≡ true → raw_capacity (map (channel_of code) pairs) p q ≡ laws.send_count code p q
capacity_there code [] p q e = absurd (let no' : false ≡ true = e in cc)
capacity_there code (pair ∷ pairs) p q e = at (is_pair p q pair) refl e (capacity_there code pairs p q)
  where
    at : (c : Bool) → is_pair p q pair ≡ c → (c || list_any (is_pair p q) pairs) ≡ true → (list_any (is_pair p q) pairs ≡ true → raw_capacity (map (channel_of code) pairs) p q ≡ laws.send_count code p q)
        → cond c (laws.send_count code pair.0 pair.1) (raw_capacity (map (channel_of code) pairs) p q) ≡ laws.send_count code p q
    at true here is ih =
        let (same_p, same_q) = and_parts (pair.0 == p) (pair.1 == q) here in
        ap (λ k. laws.send_count code k pair.1) (eqb-true pair.0 p same_p) ∙ ap (laws.send_count code p) (eqb-true pair.1 q same_q)
    at false here is ih = ih is

-- what is at a place of a list passes in what is made of it
any_piece : {X : Type 0} (f : X → Bool) (g : ℕ → List X) (xs : List ℕ) (k : ℕ) → k < length xs → list_any f (g (slice_index xs k)) ≡ true → list_any f (flat_map g xs) ≡ true
any_piece f g [] k l e = absurd (omega (arith, l))
any_piece f g (x ∷ xs) zero l e = joined f (g x) (flat_map g xs) (inl e)
  where
    joined : {X : Type 0} (f : X → Bool) (ys zs : List X) → (list_any f ys ≡ true) ⊎ (list_any f zs ≡ true) → list_any f (ys ++ zs) ≡ true
    joined f [] zs (inl h) = absurd (let no' : false ≡ true = h in cc)
    joined f [] zs (inr h) = h
    joined f (y ∷ ys) zs (inl h) = elim (or_cases (f y) (list_any f ys) h) [
      | inl here ↦ or_left (f y) (list_any f (ys ++ zs)) here
      | inr there ↦ or_right (f y) (list_any f (ys ++ zs)) (joined f ys zs (inl there))
    ]
    joined f (y ∷ ys) zs (inr h) = or_right (f y) (list_any f (ys ++ zs)) (joined f ys zs (inr h))
any_piece f g (x ∷ xs) (suc k) l e = after f (g x) (flat_map g xs) (any_piece f g xs k (omega (arith, l)) e)
  where
    after : {X : Type 0} (f : X → Bool) (ys zs : List X) → list_any f zs ≡ true → list_any f (ys ++ zs) ≡ true
    after f [] zs h = h
    after f (y ∷ ys) zs h = or_right (f y) (list_any f (ys ++ zs)) (after f ys zs h)

any_filtered : {X : Type 0} (f : X → Bool) (h : ℕ → X) (t : ℕ → Bool) (xs : List ℕ) (k : ℕ) → k < length xs → t (slice_index xs k) ≡ true → f (h (slice_index xs k)) ≡ true → list_any f (map h (filter t xs)) ≡ true
any_filtered f h t [] k l passes is = absurd (omega (arith, l))
any_filtered f h t (x ∷ xs) zero l passes is =
    ap (λ c. list_any f (map h (cond c (x ∷ filter t xs) (filter t xs)))) passes ∙ or_left (f (h x)) (list_any f (map h (filter t xs))) is
any_filtered f h t (x ∷ xs) (suc k) l passes is = at (t x) (any_filtered f h t xs k (omega (arith, l)) passes is)
  where
    at : (c : Bool) → list_any f (map h (filter t xs)) ≡ true → list_any f (map h (cond c (x ∷ filter t xs) (filter t xs))) ≡ true
    at true ih = or_right (f (h x)) (list_any f (map h (filter t xs))) ih
    at false ih = ih

zero_plus : (n : ℕ) → 0 + n ≡ n
zero_plus n = omega arith

-- the pairs with a send are listed
pair_there : (code : List (List RawInstr)) (p q : ℕ) → p < length code → q < length code → 0 < laws.send_count code p q → list_any (is_pair p q) (laws.pairs_of code) ≡ true
pair_there code p q p_in q_in some =
    any_piece (is_pair p q) (laws.pairs_from code) (range_with_len 0 (length code)) p (omega (arith, p_in, length-range_with_len 0 (length code)))
    (subst (λ k. list_any (is_pair p q) (laws.pairs_from code k) ≡ true) (sym (get_or-range_with_len 0 (length code) p 0 p_in ∙ zero_plus p))
    (any_filtered (is_pair p q) (λ k. (p, k)) (λ k. nat_lt 0 (laws.send_count code p k)) (range_with_len 0 (length code)) q (omega (arith, q_in, length-range_with_len 0 (length code)))
    (ap (λ k. nat_lt 0 (laws.send_count code p k)) at_q ∙ lt-ltb 0 (laws.send_count code p q) some)
    (ap (λ k. is_pair p q (p, k)) at_q ∙ and_from (p == p) (q == q) (eq-eqb p p refl) (eq-eqb q q refl))))
  where
    at_q : slice_index (range_with_len 0 (length code)) q ≡ q
    at_q = get_or-range_with_len 0 (length code) q 0 q_in ∙ zero_plus q

same_send_to : (q : ℕ) (x : RawInstr) → is_send_to q (instr_of x) ≡ laws.is_send_to q x
same_send_to q (Recv from d) = refl
same_send_to q (Exec t) = refl
same_send_to q (Send to d) = refl

module _ (s : System) (placement : Placement) (order : List ℕ) (graph : IsGraph s) (placed : IsPlaced s placement) (top : IsTopological (task_count s) (IsEdge s) order)
    (b : Parts) (count : processor_count b ≡ placement.processors) (codes_are : (q : ℕ) → code_at b q ≡ map instr_of (code_on s placement order q))
    (raw_code : (raw_of b).code ≡ codes s placement order) (raw_channels : (raw_of b).channels ≡ channels_of (raw_of b).code) where
  abbrev all : List (List RawInstr)
  all = codes s placement order

  all_count : length all ≡ placement.processors
  all_count = length-map-range_with_len (code_on s placement order) 0 placement.processors

  capacity_is : (p q : ℕ) → capacity_in b.channels p q ≡ raw_capacity (channels_of all) p q
  capacity_is p q =
      raw_capacity_is b.channels p q ∙ ap (λ (cs : List RawChannel). raw_capacity cs p q) raw_channels
      ∙ ap (λ (code : List (List RawInstr)). raw_capacity (channels_of code) p q) raw_code

  sends_are : (p q : ℕ) → p < placement.processors → laws.send_count all p q ≡ count_by (laws.is_send_to q) (code_on s placement order p)
  sends_are p q inside =
      ap (λ (code : List RawInstr). count_by (laws.is_send_to q) code) (get_or-map-range_with_len (code_on s placement order) 0 placement.processors p p [] inside (omega arith))

  -- none is sent to a processor that isn't there
  none_past : (p q : ℕ) → placement.processors ≤ q → count_by (laws.is_send_to q) (code_on s placement order p) ≡ 0
  none_past p q past =
      none_counted (laws.is_send_to q) (code_on s placement order p)
      (All-weaker (IsFine placement.processors (task_count s) (datum_count s) p) (λ x. laws.is_send_to q x ≡ false) other (code_on s placement order p) (code_fine s placement order graph placed top p))
    where
      other : (x : RawInstr) → IsFine placement.processors (task_count s) (datum_count s) p x → laws.is_send_to q x ≡ false
      other (Recv from d) is = refl
      other (Exec t) is = refl
      other (Send to d) is = ne_eqb to q (λ same. (let no' : ⊥ = omega (arith, same, is.0, past) in no'))

  pub holds_all : HoldsAllSends b
  holds_all p q = elim (cases_lt 0 (count_by (laws.is_send_to q) (code_on s placement order p))) [
    | inr none ↦ omega (arith, none, sends_counted)
    | inl some ↦ (
        let q_in : q < placement.processors = elim (cases_lt q placement.processors) [
          | inl inside ↦ inside
          | inr past ↦ (let none = none_past p q past in omega (arith, some, none))
        ] in
        let p_in : p < placement.processors = elim (cases_lt p placement.processors) [
          | inl inside ↦ inside
          | inr past ↦ (let none = no_sends_past past in omega (arith, some, none, sends_counted))
        ] in
        let sends = sends_are p q p_in in
        let there = pair_there all p q (omega (arith, p_in, all_count)) (omega (arith, q_in, all_count)) (omega (arith, some, sends)) in
        omega (arith, sends_counted, sends, capacity_is p q, capacity_there all (laws.pairs_of all) p q there))
  ]
    where
      sends_counted : tally (is_send_to q) (code_at b p) ≡ count_by (laws.is_send_to q) (code_on s placement order p)
      sends_counted = counted s placement order graph placed top b count codes_are (is_send_to q) (laws.is_send_to q) (same_send_to q) p

      no_sends_past : placement.processors ≤ p → tally (is_send_to q) (code_at b p) ≡ 0
      no_sends_past past = ap (tally (is_send_to q)) (get_or_past b.code p [] (omega (arith, past, count)))
