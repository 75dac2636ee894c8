-- What calm capacities are worth to a bundle.
use Rattle.std.proofs.Common.{◌≡◌, ℕ, ◌+◌, ◌-◌, ◌<◌, ◌≤◌, ◌==◌, Bool, true, false, cond, zero, suc, List, [], ◌∷◌, map, length, get_or, count_by, ◌⊎◌, inl, inr, refl, sym, ◌∙◌, ap, subst, slice_set, arith}
use Rattle.std.proofs.lemmas.Bool.{cases_lt}
use Rattle.std.proofs.lemmas.List.{length-map, get_or_past, same_lists, get_or_default}
use Rattle.std.proofs.lemmas.List.Sums.{sum_by-cons}
use Rattle.pyr_net.specs.Net.{World}
use Rattle.pyr_net.specs.Run.{IsRun, end_of}
use Rattle.pyr_bundle.specs.declared.capacity.Capacity.{Capacity}
use Rattle.pyr_bundle.specs.declared.instr.Instr.{Instr}
use Rattle.pyr_bundle.specs.declared.instr.Instr.TheVariants.{Recv, Exec, Send}
use Rattle.pyr_bundle.specs.Laws.{send_count, is_send_to}
use Rattle.pyr_bundle.specs.Parts.{Parts, IsBundle, raw_of, raw_instr_of, processor_count, code_at, channel_at, no_channel}
use Rattle.pyr_bundle.specs.WellFormed.{IsWellFormed, IsFineCapacity}
use Rattle.pyr_machine.specs.Machine.{LocalState, Kind, machine, tags, start, capacity_in}
use Rattle.pyr_machine.specs.Parcels.{parcels, state_rules, tag_of}
use Rattle.pyr_machine.specs.Good.{IsGood}
use Rattle.pyr_machine.specs.Counts.{sends_to, step_count}
use Rattle.pyr_machine.specs.Follow.{RunsAlike}
use Rattle.pyr_machine.proofs.Words.{words_alike}
use Rattle.pyr_calm.specs.Calm.{IsGreatestLength, NeverWaits, SomeSendWaits}
use Rattle.pyr_calm.specs.Capacities.{line_at, with_channels, roomy, IsCalmCapacity, AreCalm, AreFine, StaysGood, HasWaitingSend, IsCalmed, lowered}
use Rattle.pyr_calm.proofs.Rooms.{less_waits, one_greatest}
use Rattle.pyr_calm.proofs.Channels.{capacity_set}
use Rattle.pyr_calm.proofs.Distinct.{channels_apart}
use Rattle.pyr_calm.proofs.Roomy.{machine-channels, HasRooms, good_rooms, into, same_end, at_most, lines_never_wait, lines_complete}
use Rattle.pyr_calm.proofs.Sends.{complete_fills}

-- Machines with the same runs and lists that correspond have the same greatest lengths.

module _ {P Q : Type 0} (b : Parts) (k : Kind P) (j : Kind Q) (f : P → Q)
    (alike : (run : List ℕ) → RunsAlike b k j f run) (p q n : ℕ) where
  longs : (run : List ℕ) → IsRun (machine k b) start run →
      length ((end_of (machine j b) start run).lists p q)
      ≡ length ((end_of (machine k b) start run).lists p q)
  longs run r =
      ap (λ (v : World (LocalState Q) Q). length (v.lists p q)) ((alike run).ends r)
      ∙ length-map ((end_of (machine k b) start run).lists p q) f

  pub greatest_forth : IsGreatestLength (machine k b) start p q n →
      IsGreatestLength (machine j b) start p q n
  greatest_forth g = record {
    run = g.run;
    is_run = (alike g.run).runs.0 g.is_run;
    there = longs g.run g.is_run ∙ g.there;
    greatest = λ other o.
        let r = (alike other).runs.1 o in
        let same = longs other r in
        let most = g.greatest other r in
        omega (arith, same, most);
  }

  pub greatest_back : IsGreatestLength (machine j b) start p q n →
      IsGreatestLength (machine k b) start p q n
  greatest_back g =
      let r = (alike g.run).runs.1 g.is_run in
      record {
        run = g.run;
        is_run = r;
        there = sym (longs g.run r) ∙ g.there;
        greatest = λ other o.
            let same = longs other o in
            let most = g.greatest other ((alike other).runs.0 o) in
            omega (arith, same, most);
      }

-- a calm capacity, by the tag machine
pub calm_tags : (b : Parts) (p q n : ℕ) → IsCalmCapacity b p q n →
    IsGreatestLength (machine (tags b) (roomy b)) start p q n
calm_tags b p q n calm =
    greatest_forth (roomy b) (parcels b 0) (tags b) tag_of (words_alike (roomy b) 0) p q n (calm 0)

pub calm_words : (b : Parts) (p q n : ℕ) →
    IsGreatestLength (machine (tags b) (roomy b)) start p q n → IsCalmCapacity b p q n
calm_words b p q n g frame =
    greatest_back (roomy b) (parcels b frame) (tags b) tag_of (words_alike (roomy b) frame) p q n g

-- with its calm capacities a good bundle is good, and no send waits
pub stays_good : (b : Parts) (lines : List Capacity) (n : ℕ) → IsGood b n → AreCalm b lines →
    IsGood (with_channels b lines) n
    × ((frame : ℕ) → NeverWaits (state_rules (with_channels b lines) frame) start)
stays_good b lines n good calm = (
  lines_complete (tags b) b rooms lines calm.pairs
      (λ i l. calm_tags b (line_at lines i).from.0 (line_at lines i).to.0 (line_at lines i).capacity (calm.calm i l))
      n good,
  λ frame. lines_never_wait (parcels b frame) b rooms lines calm.pairs (λ i l. calm.calm i l frame),
)
  where
    rooms : HasRooms b
    rooms = good_rooms (tags b) b n good

pub calm_stays_good : (b : Parts) (lines : List Capacity) → IsGood b (step_count b) →
    AreCalm b lines → StaysGood (with_channels b lines)
calm_stays_good b lines good calm =
    let both = stays_good b lines (step_count b) good calm in
    record { good = both.0; waits = both.1 }

-- with one of them lowered some send waits
pub lower_waits : (b : Parts) (lines : List Capacity) (i : ℕ) → IsBundle b → AreCalm b lines →
    i < length lines → 2 ≤ (line_at lines i).capacity →
    HasWaitingSend (lowered (with_channels b lines) i)
lower_waits b lines i is calm l two frame =
    subst (λ net. SomeSendWaits net start)
    (sym (machine-channels (parcels b frame) (roomy b) (slice_set lines i less)))
    (less_waits (state_rules (roomy b) frame) (capacity_in (slice_set lines i less)) start
    c.from.0 c.to.0 c.capacity (calm.calm i l frame)
    (let low = lower in omega (arith, low, two)) (omega arith))
  where
    c : Capacity
    c = line_at lines i

    less : Capacity
    less = record c { capacity = c.capacity - 1 }

    earlier : (j : ℕ) → j < i → (line_at lines j).from.0 ≡ c.from.0 →
        (line_at lines j).to.0 ≡ c.to.0 → ⊥
    earlier j m from to =
        let k : j < length lines = omega (arith, m, l) in
        let count = calm.pairs.count in
        channels_apart b is.lawful.channels j i m (omega (arith, l, count))
        (ap (λ x. x.0) (sym (calm.pairs.from j k)) ∙ from ∙ ap (λ x. x.0) (calm.pairs.from i l))
        (ap (λ x. x.0) (sym (calm.pairs.to j k)) ∙ to ∙ ap (λ x. x.0) (calm.pairs.to i l))

    lower : capacity_in (slice_set lines i less) c.from.0 c.to.0 ≡ c.capacity - 1
    lower = capacity_set lines i less l earlier

-- there is one such list
capacity_path : (x y : Capacity) → x.from ≡ y.from → x.to ≡ y.to → x.capacity ≡ y.capacity → x ≡ y
capacity_path x y e f g = λ i. record { from = e i; to = f i; capacity = g i }

pub one_calm : (b : Parts) (lines others : List Capacity) → AreCalm b lines → AreCalm b others →
    lines ≡ others
one_calm b lines others calm also = same_lists lines others count each
  where
    count : length lines ≡ length others
    count = calm.pairs.count ∙ sym also.pairs.count

    each : (i : ℕ) (d : Capacity) → i < length lines → get_or lines i d ≡ get_or others i d
    each i d l =
        get_or_default lines i d no_channel l
        ∙ capacity_path (line_at lines i) (line_at others i) from to
        (one_greatest (state_rules (roomy b) 0) start (line_at lines i).from.0 (line_at lines i).to.0 _ _
        (calm.calm i l 0)
        (subst (λ m. IsGreatestLength (state_rules (roomy b) 0) start m (line_at lines i).to.0 (line_at others i).capacity) (sym (ap (λ x. x.0) from))
        (subst (λ m. IsGreatestLength (state_rules (roomy b) 0) start (line_at others i).from.0 m (line_at others i).capacity) (sym (ap (λ x. x.0) to))
        (also.calm i k 0))))
        ∙ sym (get_or_default others i d no_channel k)
      where
        k : i < length others
        k = omega (arith, l, count)

        from : (line_at lines i).from ≡ (line_at others i).from
        from = calm.pairs.from i l ∙ sym (also.pairs.from i k)

        to : (line_at lines i).to ≡ (line_at others i).to
        to = calm.pairs.to i l ∙ sym (also.pairs.to i k)

-- Each is from 1 to its channel's number of sends.

mapped : {X Y : Type 0} (f : X → Y) (xs : List X) (i : ℕ) (d : X) →
    get_or (map f xs) i (f d) ≡ f (get_or xs i d)
mapped f [] i d = refl
mapped f (x ∷ xs) zero d = refl
mapped f (x ∷ xs) (suc i) d = mapped f xs i d

counted_sends : (q : ℕ) (code : List Instr) →
    count_by (is_send_to q) (map raw_instr_of code) ≡ sends_to q code
counted_sends q [] = refl
counted_sends q (x ∷ code) =
    sum_by-cons (λ y. cond (is_send_to q y) 1 0) (raw_instr_of x) (map raw_instr_of code)
    ∙ ap (λ n. cond (is_send_to q (raw_instr_of x)) 1 0 + n) (counted_sends q code) ∙ first x
  where
    first : (y : Instr) →
        cond (is_send_to q (raw_instr_of y)) 1 0 + sends_to q code ≡ sends_to q (y ∷ code)
    first (Recv from d) = omega arith
    first (Exec t) = omega arith
    first (Send to d) = at (to.0 == q)
      where
        at : (c : Bool) → cond c 1 0 + sends_to q code ≡ cond c (suc (sends_to q code)) (sends_to q code)
        at true = omega arith
        at false = omega arith

pub send_count_is : (b : Parts) (p q : ℕ) → send_count (raw_of b).code p q ≡ sends_to q (code_at b p)
send_count_is b p q =
    ap (count_by (is_send_to q)) (mapped (map raw_instr_of) b.code p [])
    ∙ counted_sends q (code_at b p)

pub sender_known : (b : Parts) (p q : ℕ) → 0 < sends_to q (code_at b p) → p < processor_count b
sender_known b p q some = at (cases_lt p (processor_count b))
  where
    at : (p < processor_count b) ⊎ (processor_count b ≤ p) → p < processor_count b
    at (inl l) = l
    at (inr m) =
        let none : sends_to q (code_at b p) ≡ 0 = ap (sends_to q) (get_or_past b.code p [] m) in
        absurd (omega (arith, some, none))

-- a greatest length is positive where there is a send
pub some_length : (b : Parts) (n p q m : ℕ) → IsGood b n → 0 < sends_to q (code_at b p) →
    IsGreatestLength (machine (tags b) (roomy b)) start p q m → 1 ≤ m
some_length b n p q m good some g =
    let f = complete_fills (tags b) b n p q good (sender_known b p q some) some in
    let rooms = good_rooms (tags b) b n good in
    let most = g.greatest f.run (into (tags b) b rooms b.channels f.run f.is_run) in
    let same : length ((end_of (machine (tags b) b) start f.run).lists p q)
    ≡ length ((end_of (machine (tags b) (roomy b)) start f.run).lists p q) =
    ap (λ v. length (v.lists p q)) (same_end (tags b) b rooms b.channels f.run) in
    let there = f.some in
    omega (arith, most, same, there)

pub fine_line : (b : Parts) (n : ℕ) (c : Capacity) (i : ℕ) → IsWellFormed b → IsGood b n →
    i < length b.channels → c.from ≡ (channel_at b i).from → c.to ≡ (channel_at b i).to →
    IsGreatestLength (machine (tags b) (roomy b)) start c.from.0 c.to.0 c.capacity →
    IsFineCapacity b c
fine_line b n c i well good l from to g =
    let (one, most) = well.capacities i l in
    let count = send_count_is b c.from.0 c.to.0 in
    let same : send_count (raw_of b).code (channel_at b i).from.0 (channel_at b i).to.0 ≡ send_count (raw_of b).code c.from.0 c.to.0 =
    ap (λ x. send_count (raw_of b).code x.0 (channel_at b i).to.0) (sym from)
    ∙ ap (λ x. send_count (raw_of b).code c.from.0 x.0) (sym to) in
    let some : 0 < sends_to c.to.0 (code_at b c.from.0) = omega (arith, one, most, count, same) in
    let rooms = good_rooms (tags b) b n good in
    let few = at_most (tags b) b rooms c.from.0 c.to.0 c.capacity g in
    (some_length b n c.from.0 c.to.0 c.capacity good some g, omega (arith, few, count))

pub fine_lines : (b : Parts) (n : ℕ) (lines : List Capacity) → IsWellFormed b → IsGood b n →
    AreCalm b lines → AreFine b lines
fine_lines b n lines well good calm i l =
    let count = calm.pairs.count in
    fine_line b n (line_at lines i) i well good (omega (arith, l, count)) (calm.pairs.from i l)
    (calm.pairs.to i l)
    (calm_tags b (line_at lines i).from.0 (line_at lines i).to.0 (line_at lines i).capacity (calm.calm i l))

-- the bundle with its calm capacities
pub is_calmed : (old new : Parts) (lines : List Capacity) → IsGood old (step_count old) →
    AreCalm old lines → new ≡ with_channels old lines → IsCalmed old new
is_calmed old new lines good calm e =
    let stays = calm_stays_good old lines good calm in
    subst (IsCalmed old) (sym e) (record {
      same = refl;
      calm = calm;
      good = stays.good;
      waits = stays.waits;
    })
