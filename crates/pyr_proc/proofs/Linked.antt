-- A bundle has a channel for each two processors of which one sends to the other.
use Rattle.std.proofs.Common.{◌≡◌, ◌≢◌, ℕ, zero, suc, ◌+◌, ◌<◌, ◌≤◌, ◌==◌, ◌&&◌, Bool, true, false, cond, List, [], ◌∷◌, ◌++◌, length, map, get_or, Option, Some, None, slice_get, ◌⊎◌, inl, inr, refl, sym, ◌∙◌, ap, subst, arith, eqb-true}
use Rattle.std.specs.Prelude.{filter, count_by, nat_lt, All}
use Rattle.std.specs.List.{flat_map, range_with_len}
use Rattle.std.specs.Option.{option_map}
use Rattle.std.proofs.lemmas.Bool.{and_parts, eq-eqb, lt-ltb}
use Rattle.std.proofs.lemmas.Bool.Decides.{eqb_tells}
use Rattle.std.proofs.lemmas.List.{length-map}
use Rattle.std.proofs.Math.ListN.{get_or-map}
use Rattle.std.proofs.lemmas.List.Sums.{sum_by-cons}
use Rattle.std.proofs.lemmas.Option.{slice_get_within, slice_get-get_or, slice_get-map, get_or_from_slice_get}
use Rattle.pyr_num.specs.declared.ids.DatumId.{DatumId}
use Rattle.pyr_bundle.specs.declared.raw_channel.RawChannel.{RawChannel}
use Rattle.pyr_bundle.specs.declared.raw_instr.RawInstr.{RawInstr}
use Rattle.pyr_bundle.specs.declared.capacity.Capacity.{Capacity}
use Rattle.pyr_bundle.specs.declared.instr.Instr.{Instr}
use Rattle.pyr_bundle.specs.declared.instr.Instr.TheVariants.{Recv, Exec, Send}
use Rattle.pyr_bundle.specs.Raw.{code_in}
use Rattle.pyr_bundle.specs.Laws.{is_send_to, is_line_of, send_count, pairs_from, pairs_of, channels}
use Rattle.pyr_bundle.specs.Law.{IsKept}
use Rattle.pyr_bundle.specs.Parts.{Parts, IsBundle, raw_of, raw_channel_of, raw_instr_of, processor_count, code_at, no_channel}
use Rattle.pyr_bundle.specs.WellFormed.{IsWellFormed}
use Rattle.pyr_bundle.proofs.WellFormedLemmas.{well_formed}
use Rattle.pyr_bundle.proofs.ChannelLemmas.{pair_at}
use Rattle.pyr_machine.specs.Machine.{capacity_in}
use Rattle.pyr_machine.specs.Local.{sent_data, traffic}
use Rattle.pyr_ends.specs.Wired.{IsBetween, Covers}
use Rattle.pyr_proc.specs.Feed.{settled_parcel, feed_of}
use Rattle.pyr_proc.specs.Making.{all_traffic}

-- x is an element
abbrev In : {X : Type 0} → X → List X → Type 0
In x [] = ⊥
In x (y ∷ ys) = (x ≡ y) ⊎ In x ys

in-left : {X : Type 0} (x : X) (xs ys : List X) → In x xs → In x (xs ++ ys)
in-left x [] ys h = absurd h
in-left x (y ∷ xs) ys (inl e) = inl e
in-left x (y ∷ xs) ys (inr h) = inr (in-left x xs ys h)

in-right : {X : Type 0} (x : X) (xs ys : List X) → In x ys → In x (xs ++ ys)
in-right x [] ys h = h
in-right x (y ∷ xs) ys h = inr (in-right x xs ys h)

in-map : {X Y : Type 0} (f : X → Y) (x : X) (xs : List X) → In x xs → In (f x) (map f xs)
in-map f x [] h = absurd h
in-map f x (y ∷ xs) (inl e) = inl (ap f e)
in-map f x (y ∷ xs) (inr h) = inr (in-map f x xs h)

in-filter : (test : ℕ → Bool) (x : ℕ) (xs : List ℕ) → test x ≡ true → In x xs → In x (filter test xs)
in-filter test x [] t h = absurd h
in-filter test x (y ∷ xs) t (inl e) = subst (λ c. In x (cond c (y ∷ filter test xs) (filter test xs))) (sym (ap test (sym e) ∙ t)) (inl e)
in-filter test x (y ∷ xs) t (inr h) = at (test y) (in-filter test x xs t h)
  where
    at : (c : Bool) → In x (filter test xs) → In x (cond c (y ∷ filter test xs) (filter test xs))
    at true k = inr k
    at false k = k

in-range : (n a x : ℕ) → a ≤ x → x < a + n → In x (range_with_len a n)
in-range zero a x l m = absurd (omega arith)
in-range (suc n) a x l m = at (eqb_tells x a) (in-range n (a + 1) x)
  where
    at : (((x == a) ≡ true) × (x ≡ a)) ⊎ (((x == a) ≡ false) × (x ≢ a)) → (a + 1 ≤ x → x < (a + 1) + n → In x (range_with_len (a + 1) n)) → In x (range_with_len a (suc n))
    at (inl i) ih = inl i.1
    at (inr i) ih = inr (ih (let ne = i.1 in omega (arith, ne)) (omega arith))

in-flat : (f : ℕ → List (ℕ × ℕ)) (y : ℕ × ℕ) (x : ℕ) (xs : List ℕ) → In x xs → In y (f x) → In y (flat_map f xs)
in-flat f y x [] h k = absurd h
in-flat f y x (z ∷ xs) (inl e) k = in-left y (f z) (flat_map f xs) (subst (λ w. In y (f w)) e k)
in-flat f y x (z ∷ xs) (inr h) k = in-right y (f z) (flat_map f xs) (in-flat f y x xs h k)

in-get : {X : Type 0} (x : X) (xs : List X) → In x xs → (i : ℕ) × (slice_get xs i ≡ Some x)
in-get x [] h = absurd h
in-get x (y ∷ xs) (inl e) = (zero, ap Some (sym e))
in-get x (y ∷ xs) (inr h) = let r = in-get x xs h in (suc r.0, r.1)

-- all elements are below n, in both parts
abbrev AllLow : ℕ → List (ℕ × ℕ) → Type 0
AllLow n [] = Unit {0}
AllLow n (x ∷ xs) = ((x.0 < n) × (x.1 < n)) × AllLow n xs

low-append : (n : ℕ) (xs ys : List (ℕ × ℕ)) → AllLow n xs → AllLow n ys → AllLow n (xs ++ ys)
low-append n [] ys h k = k
low-append n (x ∷ xs) ys h k = (h.0, low-append n xs ys h.1 k)

low-row : (n p m a : ℕ) (test : ℕ → Bool) → p < n → a + m ≤ n → AllLow n (map (λ q. (p, q)) (filter test (range_with_len a m)))
low-row n p zero a test l k = tt
low-row n p (suc m) a test l k = at (test a) (low-row n p m (a + 1) test l (omega arith))
  where
    at : (c : Bool) → AllLow n (map (λ q. (p, q)) (filter test (range_with_len (a + 1) m))) → AllLow n (map (λ q. (p, q)) (cond c (a ∷ filter test (range_with_len (a + 1) m)) (filter test (range_with_len (a + 1) m))))
    at true ih = ((l, omega arith), ih)
    at false ih = ih

low-rows : (code : List (List RawInstr)) (m a : ℕ) → a + m ≤ length code → AllLow (length code) (flat_map (pairs_from code) (range_with_len a m))
low-rows code zero a k = tt
low-rows code (suc m) a k =
    low-append (length code) (pairs_from code a) (flat_map (pairs_from code) (range_with_len (a + 1) m))
    (low-row (length code) a (length code) 0 (λ q. nat_lt 0 (send_count code a q)) (omega arith) (omega arith))
    (low-rows code m (a + 1) (omega arith))

low-get : (n : ℕ) (xs : List (ℕ × ℕ)) (i : ℕ) (x : ℕ × ℕ) → AllLow n xs → slice_get xs i ≡ Some x → (x.0 < n) × (x.1 < n)
low-get n [] i x h e = absurd (cc)
low-get n (y ∷ xs) zero x h e = let same : y ≡ x = cc in subst (λ (z : ℕ × ℕ). (z.0 < n) × (z.1 < n)) same h.0
low-get n (y ∷ xs) (suc i) x h e = low-get n xs i x h.1 e

-- two processors with a send are one of the pairs
pair_there : (code : List (List RawInstr)) (p q : ℕ) → p < length code → q < length code → 0 < send_count code p q → (i : ℕ) × (slice_get (pairs_of code) i ≡ Some (p, q))
pair_there code p q l m some =
    in-get (p, q) (pairs_of code)
    (in-flat (pairs_from code) (p, q) p (range_with_len 0 (length code)) (in-range (length code) 0 p (omega arith) (omega arith))
    (in-map (λ r. (p, r)) q (filter (λ r. nat_lt 0 (send_count code p r)) (range_with_len 0 (length code)))
    (in-filter (λ r. nat_lt 0 (send_count code p r)) q (range_with_len 0 (length code)) (lt-ltb 0 (send_count code p q) some) (in-range (length code) 0 q (omega arith) (omega arith)))))

-- the channel of a pair
record Channel (b : Parts) (p q : ℕ) : Type 0 where
  index : ℕ
  channel : Capacity
  is : slice_get b.channels index ≡ Some channel
  from : channel.from.0 ≡ p
  to : channel.to.0 ≡ q

line_there : (c : Option Capacity) (p q : ℕ) → is_line_of (option_map raw_channel_of c) (Some (p, q)) ≡ true → (d : Capacity) × (c ≡ Some d) × (d.from.0 ≡ p) × (d.to.0 ≡ q)
line_there None p q e = absurd (cc)
line_there (Some d) p q e = let parts = and_parts (d.from.0 == p) (d.to.0 == q) e in (d, refl, eqb-true d.from.0 p parts.0, eqb-true d.to.0 q parts.1)

channel_there : (b : Parts) (p q : ℕ) → IsKept (channels (raw_of b)) → p < length (raw_of b).code → q < length (raw_of b).code → 0 < send_count (raw_of b).code p q → Channel b p q
unfolding channels
channel_there b p q kept l m some =
    let i = pair_there (raw_of b).code p q l m some in
    let low = slice_get_within (pairs_of (raw_of b).code) i.0 (p, q) i.1 in
    let k = kept.kept i.0 0 (omega arith) (omega arith) in
    let line = line_there (slice_get b.channels i.0) p q
    (ap (λ c. is_line_of c (Some (p, q))) (sym (slice_get-map raw_channel_of b.channels i.0)) ∙ ap (is_line_of (slice_get (raw_of b).channels i.0)) (sym i.1) ∙ k) in
    record { index = i.0; channel = line.0; is = line.1; from = line.2; to = line.3 }

-- where the capacity is 0, there is no channel
capacity_some : (cs : List Capacity) (p q i : ℕ) (c : Capacity) → ((j : ℕ) (d : Capacity) → slice_get cs j ≡ Some d → 1 ≤ d.capacity) → slice_get cs i ≡ Some c → c.from.0 ≡ p → c.to.0 ≡ q → 1 ≤ capacity_in cs p q
capacity_some [] p q i c fine e f t = absurd (cc)
capacity_some (d ∷ cs) p q zero c fine e f t =
    let same : d ≡ c = cc in
    let hit : ((d.from.0 == p) && (d.to.0 == q)) ≡ true = rw (eq-eqb d.from.0 p (ap (λ (x : Capacity). x.from.0) same ∙ f), eq-eqb d.to.0 q (ap (λ (x : Capacity). x.to.0) same ∙ t)) refl in
    subst (λ b. 1 ≤ cond b d.capacity (capacity_in cs p q)) (sym hit) (fine zero d refl)
capacity_some (d ∷ cs) p q (suc i) c fine e f t = at ((d.from.0 == p) && (d.to.0 == q)) (capacity_some cs p q i c (λ j x. fine (suc j) x) e f t)
  where
    at : (b : Bool) → 1 ≤ capacity_in cs p q → 1 ≤ cond b d.capacity (capacity_in cs p q)
    at true ih = fine zero d refl
    at false ih = ih

-- where there is no send, nothing is sent
none_sent : (q : ℕ) (code : List Instr) → count_by (is_send_to q) (map raw_instr_of code) ≡ 0 → sent_data q code ≡ []
none_sent q [] h = refl
none_sent q (Recv from d ∷ code) h = none_sent q code (let s = sum_by-cons (λ (x : RawInstr). cond (is_send_to q x) 1 0) (raw_instr_of (Recv from d)) (map raw_instr_of code) in omega arith)
none_sent q (Exec t ∷ code) h = none_sent q code (let s = sum_by-cons (λ (x : RawInstr). cond (is_send_to q x) 1 0) (raw_instr_of (Exec t)) (map raw_instr_of code) in omega arith)
none_sent q (Send to d ∷ code) h = at (to.0 == q) (sym (sum_by-cons (λ (x : RawInstr). cond (is_send_to q x) 1 0) (raw_instr_of (Send to d)) (map raw_instr_of code)) ∙ h) (none_sent q code)
  where
    at : (c : Bool) → cond c 1 0 + count_by (is_send_to q) (map raw_instr_of code) ≡ 0 → (count_by (is_send_to q) (map raw_instr_of code) ≡ 0 → sent_data q code ≡ []) → cond c (d ∷ sent_data q code) (sent_data q code) ≡ []
    at true e ih = absurd (omega arith)
    at false e ih = ih (omega arith)

code_raw : (b : Parts) (p : ℕ) → code_in (raw_of b).code p ≡ map raw_instr_of (code_at b p)
code_raw b p = get_or-map (map raw_instr_of) b.code p []

-- channels have some capacity
fine_capacity : (b : Parts) → IsWellFormed b → (j : ℕ) (d : Capacity) → slice_get b.channels j ≡ Some d → 1 ≤ d.capacity
fine_capacity b well j d e =
    let f = well.capacities j (slice_get_within b.channels j d e) in
    subst (λ (c : Capacity). 1 ≤ c.capacity) (get_or_from_slice_get b.channels j d no_channel e) f.0

nothing_fed : (b : Parts) (n p q : ℕ) → sent_data q (code_at b p) ≡ [] → feed_of b n p q ≡ []
nothing_fed b zero p q e = refl
nothing_fed b (suc n) p q e = ap (λ xs. xs ++ traffic b (settled_parcel b n) p q) (nothing_fed b n p q e) ∙ ap (map (λ (d : DatumId). settled_parcel b n d.0)) e

-- where there is no channel, there is nothing to carry
pub channels_cover : (b : Parts) (n : ℕ) → IsBundle b → Covers (processor_count b) (all_traffic b n) b.channels
channels_cover b n is p q l m none = nothing_fed b n p q (at (eqb_tells (send_count (raw_of b).code p q) 0))
  where
    count : length (raw_of b).code ≡ processor_count b
    count = length-map b.code (map raw_instr_of)

    at : (((send_count (raw_of b).code p q == 0) ≡ true) × (send_count (raw_of b).code p q ≡ 0)) ⊎ (((send_count (raw_of b).code p q == 0) ≡ false) × (send_count (raw_of b).code p q ≢ 0)) → sent_data q (code_at b p) ≡ []
    at (inl i) = none_sent q (code_at b p) (ap (count_by (is_send_to q)) (sym (code_raw b p)) ∙ i.1)
    at (inr i) =
        let e = count in
        let c = channel_there b p q is.lawful.channels (omega arith) (omega arith) (let ne = i.1 in omega (arith, ne)) in
        let some = capacity_some b.channels p q c.index c.channel (fine_capacity b (well_formed b is)) c.is c.from c.to in
        absurd (omega arith)

-- each channel is between two processors
pub channels_between : (b : Parts) → IsBundle b → All (IsBetween (processor_count b)) b.channels
channels_between b is k d l = (
  subst (λ n. n < processor_count b) (sym from) (let e = count in let x = low.0 in omega arith),
  subst (λ n. n < processor_count b) (sym to) (let e = count in let x = low.1 in omega arith),
  let f = fine_capacity b (well_formed b is) k (get_or b.channels k d) (slice_get-get_or b.channels k d l) in omega arith,
)
  where
    count : length (raw_of b).code ≡ processor_count b
    count = length-map b.code (map raw_instr_of)

    there : k < length (raw_of b).channels
    there = let c = length-map b.channels raw_channel_of in omega arith

    pair : (pair : ℕ × ℕ) × (slice_get (pairs_of (raw_of b).code) k ≡ Some pair) × ((get_or (raw_of b).channels k (raw_channel_of d)).from ≡ pair.0) × ((get_or (raw_of b).channels k (raw_channel_of d)).to ≡ pair.1)
    pair = pair_at (raw_of b) is.lawful.channels k (raw_channel_of d) there

    low : (pair.0.0 < length (raw_of b).code) × (pair.0.1 < length (raw_of b).code)
    low = low-get (length (raw_of b).code) (pairs_of (raw_of b).code) k pair.0 (low-rows (raw_of b).code (length (raw_of b).code) 0 (omega arith)) pair.1

    from : (get_or b.channels k d).from.0 ≡ pair.0.0
    from = ap (λ (c : RawChannel). c.from) (sym (get_or-map raw_channel_of b.channels k d)) ∙ pair.2

    to : (get_or b.channels k d).to.0 ≡ pair.0.1
    to = ap (λ (c : RawChannel). c.to) (sym (get_or-map raw_channel_of b.channels k d)) ∙ pair.3
