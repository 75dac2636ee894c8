-- The numbers of a lawful bundle fit ids.
use Rattle.std.proofs.Common.{◌≡◌, ℕ, ◌<◌, ◌≤◌, ◌==◌, true, not, List, [], ◌∷◌, filter, length, get_or, All, sym, ap, ◌∙◌, subst, arith}
use Rattle.std.specs.Prelude.{Some, nat_lt, nat_le}
use Rattle.std.specs.List.{flat_map, range_with_len}
use Rattle.std.proofs.lemmas.Bool.{and_parts, ltb-true, leb-true}
use Rattle.std.proofs.lemmas.List.{get_or_default}
use Rattle.std.proofs.lemmas.List.Elements.{All-nil, All-append, All-head, All-tail, All-map, All-filter}
use Rattle.std.proofs.lemmas.List.FromFn.{get_or-range_with_len, length-range_with_len}
use Rattle.std.proofs.lemmas.List.Sums.{count_by-le-length}
use Rattle.std.proofs.lemmas.Option.{slice_get-get_or, slice_get_within, get_or_from_slice_get}
use Rattle.pyr_num.specs.declared.limits.TheConstants.Limits.{DATUMS}
use Rattle.pyr_bundle.specs.declared.raw_bundle.RawBundle.{RawBundle}
use Rattle.pyr_bundle.specs.declared.raw_channel.RawChannel.{RawChannel}
use Rattle.pyr_bundle.specs.declared.raw_instr.RawInstr.{RawInstr}
use Rattle.pyr_bundle.specs.declared.raw_instr.RawInstr.TheVariants.{Recv, Exec, Send}
use Rattle.pyr_bundle.specs.Law.{IsKept}
use Rattle.pyr_bundle.specs.Tables.{FitsId, HasIds, HasSmallNumbers}
use Rattle.pyr_bundle.specs.Raw.{datum_count, task_count, processor_count, code_in, IsWithinLimits}
use Rattle.pyr_bundle.specs.Laws.{fresh, fits, prints, operands, channels, capacities, is_send_to, is_fine_capacity, send_count, pairs_from, pairs_of}
use Rattle.pyr_bundle.proofs.Stamps.{fresh_at}
use Rattle.pyr_bundle.proofs.CountLemmas.{fits_at_place, code_part}
use Rattle.pyr_bundle.proofs.ChannelLemmas.{pair_at}

-- numbers of data
pub fresh_small : (count : ℕ) (xs : List ℕ) → count ≤ DATUMS → IsKept (fresh count xs) → All FitsId xs
fresh_small count xs few kept k d l =
    let h = (fresh_at count xs k kept l).0 in let e = get_or_default xs k d 0 l in omega arith

pub prints_small : (raw : RawBundle) → IsWithinLimits raw → IsKept (prints raw) → All FitsId raw.prints
unfolding prints
prints_small raw limits kept = fresh_small (datum_count raw) raw.prints limits.datums kept

-- what an instruction names
pub instr_small : (raw : RawBundle) (p : ℕ) → IsWithinLimits raw → (instr : RawInstr) → fits raw p instr ≡ true → HasIds instr
instr_small raw p limits (Recv from d) e =
    let a = and_parts _ (nat_lt d (datum_count raw)) e in
    let b = ltb-true from (processor_count raw) (and_parts (nat_lt from (processor_count raw)) (not (from == p)) a.0).0 in
    let c = ltb-true d (datum_count raw) a.1 in
    let m = limits.processors in let n = limits.datums in
    (omega arith, omega arith)
instr_small raw p limits (Exec t) e =
    let a = ltb-true t (task_count raw) e in let m = limits.tasks in omega arith
instr_small raw p limits (Send to d) e =
    let a = and_parts _ (nat_lt d (datum_count raw)) e in
    let b = ltb-true to (processor_count raw) (and_parts (nat_lt to (processor_count raw)) (not (to == p)) a.0).0 in
    let c = ltb-true d (datum_count raw) a.1 in
    let m = limits.processors in let n = limits.datums in
    (omega arith, omega arith)

pub codes_small : (raw : RawBundle) → IsWithinLimits raw → IsKept (operands raw) → All (All HasIds) raw.code
codes_small raw limits kept p d l i e k =
    let same : get_or raw.code p d ≡ code_in raw.code p = get_or_default raw.code p d [] l in
    let within : i < length (code_in raw.code p) = subst (λ (x : List RawInstr). i < length x) same k in
    subst (λ (x : List RawInstr). HasIds (get_or x i e)) (sym same) (instr_small raw p limits (get_or (code_in raw.code p) i e) (fits_at_place raw p i kept l _ within (slice_get-get_or (code_in raw.code p) i e within)))

-- the pairs of a bundle are pairs of its processors
abbrev IsPairBelow : ℕ → ℕ × ℕ → Type 0
IsPairBelow n pair = (pair.0 < n) × (pair.1 < n)

range_below : (n : ℕ) → All (λ k. k < n) (range_with_len 0 n)
range_below n i d l =
    let m = length-range_with_len 0 n in
    let e = get_or-range_with_len 0 n i d (omega arith) in
    omega arith

flat_all : (f : ℕ → List (ℕ × ℕ)) (n : ℕ) → ((x : ℕ) → x < n → All (IsPairBelow n) (f x)) → (xs : List ℕ) → All (λ x. x < n) xs → All (IsPairBelow n) (flat_map f xs)
flat_all f n h [] all = All-nil (IsPairBelow n)
flat_all f n h (x ∷ xs) all =
    All-append (IsPairBelow n) (f x) (flat_map f xs) (h x (All-head (λ y. y < n) x xs all)) (flat_all f n h xs (All-tail (λ y. y < n) x xs all))

pub pairs_below : (code : List (List RawInstr)) → All (IsPairBelow (length code)) (pairs_of code)
pairs_below code =
    flat_all (pairs_from code) (length code)
    (λ p l. All-map (IsPairBelow (length code)) (λ q. (p, q)) (filter (λ q. nat_lt 0 (send_count code p q)) (range_with_len 0 (length code)))
    (λ i d k. (l, All-filter (λ q. nat_lt 0 (send_count code p q)) (λ q. q < length code) (range_with_len 0 (length code)) (range_below (length code)) i d k)))
    (range_with_len 0 (length code)) (range_below (length code))

pub capacity_fits : (raw : RawBundle) → IsKept (capacities raw) → (i : ℕ) (d : RawChannel) → i < length raw.channels → is_fine_capacity raw.code (Some (get_or raw.channels i d)) ≡ true
unfolding capacities
capacity_fits raw kept i d l =
    ap (is_fine_capacity raw.code) (sym (slice_get-get_or raw.channels i d l)) ∙ kept.kept i 0 l (omega arith)

pub channels_small : (raw : RawBundle) → IsWithinLimits raw → IsKept (channels raw) → IsKept (capacities raw) → All HasSmallNumbers raw.channels
channels_small raw limits kept fine i d l =
    let at = pair_at raw kept i d l in
    let within = slice_get_within (pairs_of raw.code) i at.0 at.1 in
    let is = get_or_from_slice_get (pairs_of raw.code) i at.0 at.0 at.1 in
    let below : IsPairBelow (length raw.code) at.0 = subst (IsPairBelow (length raw.code)) is (pairs_below raw.code i at.0 within) in
    let a = below.0 in
    let b = below.1 in
    let e = at.2 in
    let f = at.3 in
    let c : RawChannel = get_or raw.channels i d in
    let g = leb-true c.capacity (send_count raw.code c.from c.to) (and_parts (nat_le 1 c.capacity) (nat_le c.capacity (send_count raw.code c.from c.to)) (capacity_fits raw fine i d l)).1 in
    let h = count_by-le-length (is_send_to c.to) (code_in raw.code c.from) in
    let k = code_part raw.code c.from (omega arith) in
    let m = limits.processors in
    let n = limits.instructions in
    (omega arith, omega arith, omega arith)
