-- The lines of the calm capacities, one after another.
use Rattle.std.proofs.Common.{◌≡◌, ℕ, zero, suc, ◌+◌, ◌<◌, ◌≤◌, List, [], ◌∷◌, ◌++◌, length, take, drop, add-one, get_or, slice_index, slice_set, refl, sym, ◌∙◌, ap, subst, arith}
use Rattle.std.proofs.lemmas.List.{get_or_append_left, get_or_push, length_push, get_or_default}
use borrow.Author.Count.{below_more}
use Rattle.pyr_num.specs.declared.ids.ProcId.{ProcId}
use Rattle.pyr_num.specs.declared.limits.TheConstants.Limits.{INSTRUCTIONS}
use Rattle.pyr_bundle.specs.WellFormed.{IsWellFormed}
use Rattle.pyr_machine.specs.Machine.{machine, tags, start}
use Rattle.pyr_machine.specs.Good.{IsGood}
use Rattle.pyr_machine.specs.Counts.{sends_to}
use Rattle.pyr_calm.specs.Calm.{IsGreatestLength}
use Rattle.pyr_calm.specs.Course.{IsCourse}
use Rattle.pyr_calm.proofs.Bundles.{calm_words, send_count_is, sender_known}
use Rattle.pyr_calm.proofs.Courses.{course_tells}
use Rattle.pyr_calm.proofs.Roomy.{good_rooms, at_most}
use Rattle.pyr_calm.proofs.Sends.{sends_few, receiver_known}
use Rattle.pyr_bundle.specs.declared.capacity.Capacity.{Capacity}
use Rattle.pyr_bundle.specs.Parts.{Parts, processor_count, code_at, channel_at, no_channel, with_capacity}
use Rattle.pyr_calm.specs.declared.passage.Passage.{Passage}
use Rattle.pyr_calm.specs.Capacities.{line_at, with_channels, roomy, HasPairs, AreCalm}
use Rattle.pyr_calm.specs.Seats.{way_at, AreTold}
use Rattle.pyr_calm.specs.Viewers.{viewed_all, fresh_view}

-- this line has the processors of this channel, and the capacity that these passages tell
pub record IsTold (xs : List Passage) (channel line : Capacity) : Type 0 where
  pub from : line.from ≡ channel.from
  pub to : line.to ≡ channel.to
  pub capacity :
      line.capacity ≡ (viewed_all channel.to.0 xs fresh_view).most channel.from.0

-- these are the first n lines
pub record AreFirst (b : Parts) (xs : List Passage) (n : ℕ) (lines : List Capacity) : Type 0 where
  pub count : length lines ≡ n
  pub each : (i : ℕ) → i < n → IsTold xs (channel_at b i) (line_at lines i)

pub none_first : (b : Parts) (xs : List Passage) (lines : List Capacity) → lines ≡ [] →
    AreFirst b xs 0 lines
none_first b xs lines e = record { count = ap length e; each = λ i l. absurd (omega (arith, l)) }

pub one_more : (b : Parts) (xs : List Passage) (n : ℕ) (lines : List Capacity) (c : Capacity) →
    AreFirst b xs n lines → IsTold xs (channel_at b n) c → AreFirst b xs (n + 1) (lines ++ c ∷ [])
one_more b xs n lines c h t = record {
  count = length_push lines c ∙ ap (λ m. m + 1) h.count;
  each =
      below_more (λ i. IsTold xs (channel_at b i) (line_at (lines ++ c ∷ []) i)) n
      (λ i l.
      subst (IsTold xs (channel_at b i))
      (sym (get_or_append_left lines (c ∷ []) no_channel i (let e = h.count in omega (arith, l, e))))
      (h.each i l))
      (subst (IsTold xs (channel_at b n)) (sym (get_or_push lines c no_channel n h.count)) t);
}

-- one place more of the first list, and one less of the second
set_suc : (xs ys : List Capacity) (i : ℕ) (d : Capacity) → i < length xs → i < length ys →
    slice_set (take i xs ++ drop i ys) i (get_or xs i d) ≡ take (suc i) xs ++ drop (suc i) ys
set_suc [] ys i d l m = absurd (omega (arith, l))
set_suc (x ∷ xs) [] i d l m = absurd (omega (arith, m))
set_suc (x ∷ xs) (y ∷ ys) zero d l m = refl
set_suc (x ∷ xs) (y ∷ ys) (suc i) d l m =
    ap (λ zs. x ∷ zs) (set_suc xs ys i d (omega arith) (omega arith))

pub set_next : (xs ys : List Capacity) (i : ℕ) (d : Capacity) → i < length xs → i < length ys →
    slice_set (take i xs ++ drop i ys) i (get_or xs i d) ≡ take (i + 1) xs ++ drop (i + 1) ys
set_next xs ys i d l m =
    set_suc xs ys i d l m ∙ ap (λ k. take k xs ++ drop k ys) (sym (add-one i))

-- what stands at the next place
pub get_next : (xs ys : List Capacity) (i : ℕ) (d : Capacity) → i ≤ length xs → i ≤ length ys →
    get_or (take i xs ++ drop i ys) i d ≡ get_or ys i d
get_next xs ys zero d l m = refl
get_next [] ys (suc i) d l m = absurd (omega arith)
get_next (x ∷ xs) [] (suc i) d l m = absurd (omega arith)
get_next (x ∷ xs) (y ∷ ys) (suc i) d l m = get_next xs ys i d (omega arith) (omega arith)

pub length_next : (xs ys : List Capacity) (i : ℕ) → length xs ≡ length ys →
    length (take i xs ++ drop i ys) ≡ length ys
length_next xs ys zero e = refl
length_next [] [] (suc i) e = refl
length_next [] (y ∷ ys) (suc i) e = absurd (omega arith)
length_next (x ∷ xs) [] (suc i) e = absurd (omega arith)
length_next (x ∷ xs) (y ∷ ys) (suc i) e =
    let same = length_next xs ys i (omega (arith, e)) in omega (arith, same)

-- the bundle after one channel more has got its capacity
pub channel_set : (b old : Parts) (xs : List Capacity) (i : ℕ) (d : Capacity) → HasPairs b xs →
    i < length xs → old ≡ with_channels b (take i xs ++ drop i b.channels) →
    with_capacity old i (get_or xs i d).capacity
    ≡ with_channels b (take (i + 1) xs ++ drop (i + 1) b.channels)
channel_set b old xs i d pairs l e =
    ap (λ (x : Parts). with_capacity x i c.capacity) e
    ∙ ap (λ (x : Capacity). with_channels b (slice_set mixed i (record x { capacity = c.capacity })))
    (get_next xs b.channels i no_channel (omega arith) (omega (arith, m)))
    ∙ ap (λ x. with_channels b (slice_set mixed i x)) same
    ∙ ap (with_channels b) (set_next xs b.channels i d l m)
  where
    c : Capacity
    c = get_or xs i d

    mixed : List Capacity
    mixed = take i xs ++ drop i b.channels

    m : i < length b.channels
    m = let count = pairs.count in omega (arith, l, count)

    line : line_at xs i ≡ c
    line = get_or_default xs i no_channel d l

    same : record (channel_at b i) { capacity = c.capacity } ≡ c
    same = λ j. record {
      from = (sym (pairs.from i l) ∙ ap (λ (x : Capacity). x.from) line) j;
      to = (sym (pairs.to i l) ∙ ap (λ (x : Capacity). x.to) line) j;
      capacity = c.capacity;
    }

-- all lines are told, by a course of the bundle: they are its calm capacities
pub are_calm : (b : Parts) (n : ℕ) (xs : List Passage) (lines : List Capacity) → IsGood b n →
    IsCourse b xs → AreFirst b xs (length b.channels) lines → AreCalm b lines
are_calm b n xs lines good course h = record {
  pairs = record {
    count = h.count;
    from = λ i l. (told i l).from;
    to = λ i l. (told i l).to;
  };
  calm = λ i l.
      let t = told i l in
      let c = channel_at b i in
      calm_words b (line_at lines i).from.0 (line_at lines i).to.0 (line_at lines i).capacity
      (subst (λ (x : ProcId). IsGreatestLength (machine (tags b) (roomy b)) start x.0 (line_at lines i).to.0 (line_at lines i).capacity) (sym t.from)
      (subst (λ (x : ProcId). IsGreatestLength (machine (tags b) (roomy b)) start c.from.0 x.0 (line_at lines i).capacity) (sym t.to)
      (subst (IsGreatestLength (machine (tags b) (roomy b)) start c.from.0 c.to.0) (sym t.capacity)
      (course_tells b n xs c.from.0 c.to.0 good course))));
}
  where
    told : (i : ℕ) → i < length lines → IsTold xs (channel_at b i) (line_at lines i)
    told i l = h.each i (let count = h.count in omega (arith, l, count))

-- what is told of a channel is a small number
pub told_small : (b : Parts) (n : ℕ) (xs : List Passage) (i : ℕ) → IsWellFormed b → IsGood b n →
    IsCourse b xs → (viewed_all (channel_at b i).to.0 xs fresh_view).most (channel_at b i).from.0 ≤ INSTRUCTIONS
told_small b n xs i well good course =
    let c = channel_at b i in
    let few = at_most (tags b) b (good_rooms (tags b) b n good) c.from.0 c.to.0 _
    (course_tells b n xs c.from.0 c.to.0 good course) in
    let short = well.short c.from.0 in
    let all = sends_few c.to.0 (code_at b c.from.0) in
    omega (arith, few, short, all)

-- the processors of a channel are the bundle's
pub ends_known : (b : Parts) (i : ℕ) → IsWellFormed b → i < length b.channels →
    ((channel_at b i).from.0 < processor_count b) × ((channel_at b i).to.0 < processor_count b)
ends_known b i well l = (sender_known b c.from.0 c.to.0 some, receiver_known b c.from.0 c.to.0 well some)
  where
    c : Capacity
    c = channel_at b i

    some : 0 < sends_to c.to.0 (code_at b c.from.0)
    some =
        let (one, most) = well.capacities i l in
        let count = send_count_is b c.from.0 c.to.0 in
        omega (arith, one, most, count)

-- what is read of the rows for a channel of the bundle
module _ (b : Parts) (xs : List Passage) (well : IsWellFormed b) (i : ℕ) where
  pub record IsRead (channels : List Capacity) (rows : List (List ℕ)) : Type 0 where
    pub to : (line_at channels i).to.0 < length rows
    pub from : (line_at channels i).from.0
        < length (way_at rows (line_at channels i).to.0)
    pub most : slice_index (way_at rows (line_at channels i).to.0) (line_at channels i).from.0
        ≡ (viewed_all (channel_at b i).to.0 xs fresh_view).most (channel_at b i).from.0

  read_own : (rows : List (List ℕ)) → i < length b.channels →
      AreTold (processor_count b) xs (processor_count b) rows → IsRead b.channels rows
  read_own rows l told =
      let two = ends_known b i well l in
      let count = told.count in
      let to = two.1 in
      let from = two.0 in
      let full = told.full (channel_at b i).to.0 to in
      record {
        to = omega (arith, count, to);
        from = omega (arith, full, from);
        most = told.most (channel_at b i).to.0 (channel_at b i).from.0 to from;
      }

  pub is_read : (channels : List Capacity) (rows rows' : List (List ℕ)) (ys : List Passage) (n : ℕ) →
      channels ≡ b.channels → rows' ≡ rows → ys ≡ xs → n ≡ processor_count b →
      i < length channels → AreTold n ys n rows → IsRead channels rows'
  is_read channels rows rows' ys n e f g h l told =
      subst (λ cs. IsRead cs rows') (sym e)
      (subst (IsRead b.channels) (sym f)
      (read_own rows (subst (λ cs. i < length cs) e l)
      (subst (λ zs. AreTold (processor_count b) zs (processor_count b) rows) g
      (subst (λ m. AreTold m ys m rows) h told))))
