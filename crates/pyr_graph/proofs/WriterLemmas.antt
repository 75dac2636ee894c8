-- The table of the writers as the tasks are gone through.
use Rattle.std.proofs.Common.{◌≡◌, ◌≢◌, ℕ, ◌+◌, ◌<◌, ◌⊎◌, inl, inr, Bool, true, false, List, [], ◌∷◌, ◌++◌, length, get_or, arith, refl, sym, ◌∙◌}
use Rattle.std.specs.Prelude.{◌↔◌, if◌then◌else◌, nat_eq, All, Contains}
use Rattle.std.specs.List.{list_any}
use Rattle.std.proofs.lemmas.Bool.{cases_Bool, cases_lt, cond-true, cond-false, lt-ltb, false_from_ne_true}
use Rattle.std.proofs.lemmas.List.{get_or_append_left, get_or_at, get_or_default, length_push}
use Rattle.std.proofs.lemmas.List.Elements.{All-contains, All-map}
use Rattle.std.proofs.lemmas.List.Sums.{position_or_len_is}
use Rattle.pyr_num.specs.declared.ids.TaskId.{TaskId}
use Rattle.pyr_num.specs.declared.ids.DatumId.{DatumId}
use Rattle.pyr_graph.specs.declared.parts.TaskParts.{TaskParts}
use Rattle.pyr_graph.specs.declared.writers.Writer.{Writer}
use Rattle.pyr_graph.specs.declared.writers.Writer.TheVariants.{Missing, Only, Several}
use Rattle.pyr_graph.specs.System.{System, datum_count, datum_numbers, task_in, writes_in, writes_of, writer_of}
use Rattle.pyr_graph.specs.Removal.{IsLeast}
use Rattle.pyr_graph.specs.Tables.{joined, Describes, IsWriterIn, IsWrittenTwiceIn, IsUnwrittenIn, writer_in, AreSoleWriters}
use Rattle.pyr_graph.proofs.ListLemmas.{nat_eq-apart, Contains-tested, tested-Contains}

-- the same writers are described by the same entry
pub Describes-same : (Writes Other : ℕ → Type 0) → ((t : ℕ) → Writes t ↔ Other t) → (w : Writer) → Describes Writes w → Describes Other w
Describes-same Writes Other same Missing none = λ t is. none t ((same t).1 is)
Describes-same Writes Other same (Only u) (is, only) = ((same u.0).0 is, λ t other. only t ((same t).1 other))
Describes-same Writes Other same Several (a, b, apart, is_a, is_b) = (a, b, apart, (same a).0 is_a, (same b).0 is_b)

-- and a later writer is joined to them
pub Describes-joined : (Writes Other : ℕ → Type 0) (task : TaskId) → ((t : ℕ) → Writes t → t < task.0) → ((t : ℕ) → Other t ↔ (Writes t ⊎ (t ≡ task.0)))
    → (w : Writer) → Describes Writes w → Describes Other (joined w task)
Describes-joined Writes Other task before other Missing none =
    ((other task.0).1 (inr refl), λ t is. elim ((other t).0 is) [ inl was ↦ absurd (none t was) | inr same ↦ same ])
Describes-joined Writes Other task before other (Only u) (is, only) =
    let less = before u.0 is in
    let apart : u.0 ≢ task.0 = λ same. omega (arith, less, same) in
    rw (nat_eq-apart u.0 task.0 apart) (u.0, task.0, apart, (other u.0).1 (inl is), (other task.0).1 (inr refl))
Describes-joined Writes Other task before other Several (a, b, apart, is_a, is_b) = (a, b, apart, (other a).1 (inl is_a), (other b).1 (inl is_b))

-- a task before the n-th writes the datum
abbrev pub WritesBefore : List TaskParts → ℕ → ℕ → ℕ → Type 0
WritesBefore tasks n d t = (t < n) × Contains (writes_in tasks t) d

-- the table tells of the tasks before the n-th
pub record AreKnown (tasks : List TaskParts) (count n : ℕ) (table : List Writer) : Type 0 where
  pub full : length table ≡ count
  pub described : (d : ℕ) → d < count → Describes (WritesBefore tasks n d) (get_or table d Missing)

pub AreKnown-start : (tasks : List TaskParts) (count : ℕ) (table : List Writer) → length table ≡ count → ((d : ℕ) → get_or table d Missing ≡ Missing) → AreKnown tasks count 0 table
AreKnown-start tasks count table full missing = record {
  full = full;
  described = λ d d_in. rw missing (λ t is. let less : t < 0 = is.0 in omega (arith, less));
}

pub AreKnown-step : (tasks : List TaskParts) (count : ℕ) (task : TaskId) (old new : List Writer) (writes : List DatumId) → AreKnown tasks count task.0 old
    → writes ≡ (task_in tasks task.0).writes → length new ≡ length old
    → ((d : ℕ) (w : Writer) → d < length old → get_or new d w ≡ (if list_any (nat_eq d) (datum_numbers writes) then joined (get_or old d w) task else get_or old d w))
    → AreKnown tasks count (task.0 + 1) new
AreKnown-step tasks count task old new writes is same same_len noted = record {
  full = same_len ∙ is.full;
  described = λ d d_in. elim (cases_Bool (list_any (nat_eq d) (datum_numbers writes))) [
    | inl held ↦ (
        let entry = noted d Missing (omega (arith, d_in, is.full)) ∙ cond-true (list_any (nat_eq d) (datum_numbers writes)) (joined (get_or old d Missing) task) (get_or old d Missing) held in
        let held_here : Contains (writes_in tasks task.0) d = rw same at (Contains-tested d (datum_numbers writes) held) in
        rw entry (Describes-joined (WritesBefore tasks task.0 d) (WritesBefore tasks (task.0 + 1) d) task (λ t before. before.0) (λ t. (one_more d t, λ either. grown d held_here t either)) (get_or old d Missing) (is.described d d_in)))
    | inr none ↦ (
        let entry = noted d Missing (omega (arith, d_in, is.full)) ∙ cond-false (list_any (nat_eq d) (datum_numbers writes)) (joined (get_or old d Missing) task) (get_or old d Missing) none in
        rw entry (Describes-same (WritesBefore tasks task.0 d) (WritesBefore tasks (task.0 + 1) d)
        (λ t. (
          λ before. (omega (arith, before.0), before.1),
          λ now. elim (one_more d t now) [
            | inl before ↦ before
            | inr here ↦ absurd (
                let held = tested-Contains d (datum_numbers writes) (rw (same, ← here) now.1) in
                let both : true ≡ false = sym held ∙ none in cc)
          ],
        )) (get_or old d Missing) (is.described d d_in)))
  ];
}
  where
    one_more : (d t : ℕ) → WritesBefore tasks (task.0 + 1) d t → WritesBefore tasks task.0 d t ⊎ (t ≡ task.0)
    one_more d t now = elim (cases_lt t task.0) [
      | inl less ↦ inl (less, now.1)
      | inr past ↦ inr (omega (arith, past, now.0))
    ]

    grown : (d : ℕ) → Contains (writes_in tasks task.0) d → (t : ℕ) → WritesBefore tasks task.0 d t ⊎ (t ≡ task.0) → WritesBefore tasks (task.0 + 1) d t
    grown d held t either = elim either [
      | inl before ↦ (omega (arith, before.0), before.1)
      | inr here ↦ (omega (arith, here), rw here held)
    ]

-- the writers below this place are the only ones that the table has there
pub record AreOnly (table : List Writer) (writers : List TaskId) (i : ℕ) : Type 0 where
  pub full : length writers ≡ i
  pub only : (d : ℕ) (t : TaskId) → d < i → get_or table d Missing ≡ Only (get_or writers d t)

pub AreOnly-none : (table : List Writer) → AreOnly table [] 0
AreOnly-none table = record { full = refl; only = λ d t less. absurd (omega (arith, less)) }

pub AreOnly-more : (table : List Writer) (writers : List TaskId) (i : ℕ) (task : TaskId) → get_or table i Missing ≡ Only task → AreOnly table writers i
    → AreOnly table (writers ++ task ∷ []) (i + 1)
AreOnly-more table writers i task here so_far = record {
  full = rw (length_push, so_far.full) refl;
  only = λ d t less. elim (cases_lt d i) [
    | inl before ↦ rw (get_or_append_left writers (task ∷ []) t d (rw so_far.full before)) (so_far.only d t before)
    | inr past ↦ (
        let same : d ≡ i = omega (arith, less, past) in
        rw (same, get_or_at writers task [] t i so_far.full) here)
  ];
}

-- What the table says of all tasks.
module _ (tasks : List TaskParts) (count : ℕ) (table : List Writer) (full : length table ≡ count) (known : (d : ℕ) → d < count → Describes (IsWriterIn tasks d) (get_or table d Missing)) where
  -- two tasks write a datum exactly where the entry says so
  twice : (d : ℕ) → d < count → get_or table d Missing ≡ Several → IsWrittenTwiceIn tasks d
  twice d d_in is = rw is at (known d d_in)

  not_twice : (d : ℕ) (w : Writer) → Describes (IsWriterIn tasks d) w → w ≢ Several → IsWrittenTwiceIn tasks d → ⊥
  not_twice d Missing none other (a, b, apart, is_a, is_b) = none a is_a
  not_twice d (Only u) (is, only) other (a, b, apart, is_a, is_b) = apart (only a is_a ∙ sym (only b is_b))
  not_twice d Several is other written = other refl

  -- no task writes it exactly where the entry says so
  unwritten : (d : ℕ) → d < count → get_or table d Missing ≡ Missing → IsUnwrittenIn tasks count d
  unwritten d d_in is = (d_in, rw is at (known d d_in))

  not_unwritten : (d : ℕ) (w : Writer) → Describes (IsWriterIn tasks d) w → w ≢ Missing → IsUnwrittenIn tasks count d → ⊥
  not_unwritten d Missing none other is = other refl
  not_unwritten d (Only u) (is, only) other (d_in, none) = none u.0 is
  not_unwritten d Several (a, b, apart, is_a, is_b) other (d_in, none) = none a is_a

  -- the first such entry is the smallest such datum
  pub least_twice : (d : ℕ) → d < length table → get_or table d Several ≡ Several → ((e : ℕ) (w : Writer) → e < d → get_or table e w ≢ Several) → IsLeast (IsWrittenTwiceIn tasks) d
  least_twice d d_in is before = record {
    has = twice d (omega (arith, full)) (get_or_default table d Missing Several d_in ∙ is);
    least = λ m written. elim (cases_lt m d) [
      | inr le ↦ le
      | inl less ↦ absurd (not_twice m (get_or table m Missing) (known m (omega (arith, full))) (before m Missing less) written)
    ];
  }

  pub least_unwritten : (d : ℕ) → d < length table → get_or table d Missing ≡ Missing → ((e : ℕ) (w : Writer) → e < d → get_or table e w ≢ Missing) → IsLeast (IsUnwrittenIn tasks count) d
  least_unwritten d d_in is before = record {
    has = unwritten d (omega (arith, full)) is;
    least = λ m none. elim (cases_lt m d) [
      | inr le ↦ le
      | inl less ↦ absurd (not_unwritten m (get_or table m Missing) (known m (omega (arith, full))) (before m Missing less) none)
    ];
  }

  -- where there is no such entry, there is no such datum
  pub none_twice : ((t : ℕ) → All (λ d. d.0 < count) (task_in tasks t).writes) → ((e : ℕ) (w : Writer) → e < length table → get_or table e w ≢ Several) → (d : ℕ) → IsWrittenTwiceIn tasks d → ⊥
  none_twice holds none d (a, b, apart, is_a, is_b) =
      let d_in : d < count = All-contains (λ d. d < count) (writes_in tasks a) d (All-map (λ n. n < count) (λ (d : DatumId). d.0) (task_in tasks a).writes (holds a)) is_a.1 in
      not_twice d (get_or table d Missing) (known d d_in) (none d Missing (omega (arith, full, d_in))) (a, b, apart, is_a, is_b)

  -- the only writers
  pub are_sole : (writers : List TaskId) → length writers ≡ length table → ((d : ℕ) (t : TaskId) → d < length table → get_or table d Missing ≡ Only (get_or writers d t)) → AreSoleWriters tasks count writers
  are_sole writers many only = record {
    full = many ∙ full;
    writes = λ d d_in. (let is = rw (only d (record { 0 = 0 }) (omega (arith, full))) at (known d d_in) in is.0);
    alone = λ d t d_in writes. (let is = rw (only d (record { 0 = 0 }) (omega (arith, full))) at (known d d_in) in is.1 t writes);
  }

-- Sole writers are the first tasks that write the data.
pub writer_in-writer_of : (s : System) (writers : List TaskId) → AreSoleWriters s.tasks (datum_count s) writers → (d : ℕ) → d < datum_count s → writer_in writers d ≡ writer_of s d
writer_in-writer_of s writers are d d_in =
    let w = writer_in writers d in
    let writes : TaskParts → Bool = λ t. list_any (nat_eq d) (datum_numbers t.writes) in
    let (w_in, held) = are.writes d d_in in
    let place = position_or_len_is writes s.tasks w (record { cost = 0; reads = []; writes = [] }) (omega (arith, w_in))
    (λ k less. false_from_ne_true (list_any (nat_eq d) (writes_of s k)) (λ found. let same = are.alone d k d_in (omega (arith, less, w_in), Contains-tested d (writes_of s k) found) in omega (arith, same, less)))
    (λ inside. tested-Contains d (writes_of s w) held) in
    let test = lt-ltb w (length s.tasks) w_in in
    sym (rw (place, test))
