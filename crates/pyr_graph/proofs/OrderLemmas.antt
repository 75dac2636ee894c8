-- What the order keeps as it grows: which tasks wait, for how many predecessors, and which are ready.
use Rattle.std.proofs.Common.{◌≡◌, ◌≢◌, ℕ, zero, suc, ◌+◌, ◌<◌, ◌≤◌, ◌⊎◌, inl, inr, Bool, true, false, cond, not, List, [], ◌∷◌, ◌++◌, length, arith, refl, sym, ap, ◌∙◌, BTreeSet, length-append}
use Rattle.std.specs.Prelude.{◌↔◌, ◌||◌, nat_eq, nat_lt, count_by, map, slice_index, slice_index_or, Contains, Any}
use Rattle.std.specs.List.{list_any}
use Rattle.std.proofs.lemmas.Bool.{cases_Bool, cases_eq, cases_lt, false_from_ne_true, cond-true, cond-false, ltb-true, lt-ltb, not_from_true, not_from_false}
use Rattle.std.proofs.lemmas.Grind.{get_or_default_zero}
use Rattle.std.proofs.lemmas.List.{get_or_past, get_or-map, length-map}
use Rattle.std.proofs.lemmas.List.Elements.{Contains-push_cases, Contains-append_left, Contains-push, All-map}
use Rattle.std.proofs.lemmas.List.Folds.{list_any-append, Any-from_list_any, list_any_at}
use Rattle.std.proofs.lemmas.List.Sums.{sum_by-cons}
use Rattle.pyr_graph.specs.declared.edge.Edge.{Edge}
use Rattle.pyr_graph.specs.Removal.{IsLeast, IsRemoved, all_before, IsLeft, IsReady, IsSmallestFirst, IsFoundCycle}
use Rattle.pyr_graph.specs.Tables.{times_in, Precedes, AreRows, AreOpposite, IsWaiting, AreTakenOut}
use Rattle.pyr_graph.proofs.ListLemmas.{nat_eq-same, nat_eq-apart, Contains-tested, tested-Contains}
use Rattle.pyr_graph.proofs.Counting.{length-ge_from_all, length-le_from_apart}
use Rattle.pyr_graph.proofs.ReleaseLemmas.{IsIn}
use Rattle.pyr_graph.proofs.SmallestFirst.{IsSmallestFirst-push, IsSmallestFirst-none, length-le_from_first, before_in, IsRemoved-from_first}
use Rattle.pyr_graph.proofs.TrailLemmas.{IsFoundCycle-same, waiting_in}

-- how many edges of a row come from tasks that are not out
abbrev pub missing : List ℕ → List Edge → ℕ
missing order row = count_by (λ e. not (list_any (nat_eq e.task.0) order)) row

missing-cons : (order : List ℕ) (e : Edge) (row : List Edge) → missing order (e ∷ row) ≡ cond (not (list_any (nat_eq e.task.0) order)) 1 0 + missing order row
missing-cons order e row = sum_by-cons (λ (e : Edge). cond (not (list_any (nat_eq e.task.0) order)) 1 0) e row

pub times_in-cons : (e : Edge) (row : List Edge) (t : ℕ) → times_in (e ∷ row) t ≡ cond (nat_eq e.task.0 t) 1 0 + times_in row t
times_in-cons e row t = sum_by-cons (λ (e : Edge). cond (nat_eq e.task.0 t) 1 0) e row

-- none is missing where all are out
pub missing-none : (order : List ℕ) (row : List Edge) → ((a : ℕ) → Any (λ e. e.task.0 ≡ a) row → Contains order a) → missing order row ≡ 0
missing-none order [] all = refl
missing-none order (e ∷ row) all =
    let is = tested-Contains e.task.0 order (all e.task.0 (zero, e, omega arith, refl, refl)) in
    let rest = missing-none order row (λ a (k, f, inside, at, to_a). all a (suc k, f, omega arith, at, to_a)) in
    missing-cons order e row ∙ rw (is, rest)

-- and all are out where none is missing
pub all_out : (order : List ℕ) (row : List Edge) → missing order row ≡ 0 → (a : ℕ) → Any (λ e. e.task.0 ≡ a) row → Contains order a
all_out order [] none a (k, f, inside, at, to_a) = absurd (let no : k < 0 = inside in omega (arith, no))
all_out order (e ∷ row) none a (zero, f, inside, at, to_a) = elim (cases_Bool (list_any (nat_eq e.task.0) order)) [
  | inl is ↦ (let same : e.task.0 ≡ a = ap (λ (e : Edge). e.task.0) at ∙ to_a in rw (← same) (Contains-tested e.task.0 order is))
  | inr out ↦ absurd (let one = cond-true {A = ℕ} (not (list_any (nat_eq e.task.0) order)) 1 0 (not_from_false (list_any (nat_eq e.task.0) order) out) in omega (arith, missing-cons order e row, one, none))
]
all_out order (e ∷ row) none a (suc k, f, inside, at, to_a) =
    let many = missing-cons order e row in
    all_out order row (omega (arith, many, none)) a (k, f, omega arith, at, to_a)

-- where one is missing, a task of the row is not out
pub some_missing : (order : List ℕ) (row : List Edge) → 0 < missing order row → (a : ℕ) × Any (λ e. e.task.0 ≡ a) row × (Contains order a → ⊥)
some_missing order [] many = absurd (let no : 0 < 0 = many in omega (arith, no))
some_missing order (e ∷ row) many = elim (cases_Bool (list_any (nat_eq e.task.0) order)) [
  | inr out ↦ (e.task.0, (zero, e, omega arith, refl, refl), λ held. let is = tested-Contains e.task.0 order held in let both : true ≡ false = sym is ∙ out in absurd (cc))
  | inl is ↦ (
      let none = cond-false {A = ℕ} (not (list_any (nat_eq e.task.0) order)) 1 0 (not_from_true (list_any (nat_eq e.task.0) order) is) in
      let (a, (k, f, inside, at, to_a), out) = some_missing order row (omega (arith, many, missing-cons order e row, none)) in
      (a, (suc k, f, omega arith, at, to_a), out))
]

-- one task more is out
pub missing-push : (order : List ℕ) (t : ℕ) (row : List Edge) → (Contains order t → ⊥) → missing order row ≡ missing (order ++ t ∷ []) row + times_in row t
missing-push order t [] new = refl
missing-push order t (e ∷ row) new =
    let rest = missing-push order t row new in
    let before = missing-cons order e row in
    let after = missing-cons (order ++ t ∷ []) e row in
    let times = times_in-cons e row t in
    elim (cases_eq e.task.0 t) [
      | inl same ↦ (
          let is : nat_eq e.task.0 t ≡ true = nat_eq-same e.task.0 t same in
          let out : list_any (nat_eq e.task.0) order ≡ false = false_from_ne_true (list_any (nat_eq e.task.0) order) (λ held. new (rw same at (Contains-tested e.task.0 order held))) in
          let now : list_any (nat_eq e.task.0) (order ++ t ∷ []) ≡ true = tested-Contains e.task.0 (order ++ t ∷ []) (rw same (Contains-push order t)) in
          let one = cond-true {A = ℕ} (not (list_any (nat_eq e.task.0) order)) 1 0 (not_from_false (list_any (nat_eq e.task.0) order) out) in
          let none = cond-false {A = ℕ} (not (list_any (nat_eq e.task.0) (order ++ t ∷ []))) 1 0 (not_from_true (list_any (nat_eq e.task.0) (order ++ t ∷ [])) now) in
          let once = cond-true {A = ℕ} (nat_eq e.task.0 t) 1 0 is in
          omega (arith, before, after, times, one, none, once, rest))
      | inr apart ↦ (
          let is : nat_eq e.task.0 t ≡ false = nat_eq-apart e.task.0 t apart in
          let same : list_any (nat_eq e.task.0) (order ++ t ∷ []) ≡ list_any (nat_eq e.task.0) order = list_any-append (nat_eq e.task.0) order (t ∷ []) ∙ or_none (list_any (nat_eq e.task.0) order) (nat_eq e.task.0 t) is in
          let kept = ap {B = ℕ} (λ (b : Bool). cond (not b) 1 0) same in
          let none = cond-false {A = ℕ} (nat_eq e.task.0 t) 1 0 is in
          omega (arith, before, after, times, kept, none, rest))
    ]
  where
    or_none : (p q : Bool) → q ≡ false → (p || (q || false)) ≡ p
    or_none true q is = refl
    or_none false q is = rw is

-- a task that stands in a row stands there at least once, and the other way round
pub times_in-found : (row : List Edge) (t : ℕ) → 0 < times_in row t → Any (λ e. e.task.0 ≡ t) row
times_in-found [] t many = absurd (let no : 0 < 0 = many in omega (arith, no))
times_in-found (e ∷ row) t many = elim (cases_eq e.task.0 t) [
  | inl same ↦ (zero, e, omega arith, refl, same)
  | inr apart ↦ (
      let none = cond-false {A = ℕ} (nat_eq e.task.0 t) 1 0 (nat_eq-apart e.task.0 t apart) in
      let (k, f, inside, at, to_t) = times_in-found row t (omega (arith, many, times_in-cons e row t, none)) in
      (suc k, f, omega arith, at, to_t))
]

-- the state of the order: which tasks are out, for how many predecessors each task waits, and which tasks are ready
pub record IsOrdering (rows : List (List Edge)) (order pending : List ℕ) (ready : BTreeSet ℕ) : Type 0 where
  pub full : length pending ≡ length rows
  pub first : IsSmallestFirst (length rows) (Precedes rows) order
  pub waits : (t : ℕ) → t < length rows → slice_index pending t ≡ missing order (slice_index_or rows t [])
  pub free : (t : ℕ) → IsIn ready t ↔ ((t < length rows) × (Contains order t → ⊥) × (slice_index pending t ≡ 0))

-- before the first task is out
pub IsOrdering-start : (rows : List (List Edge)) (pending : List ℕ) (ready : BTreeSet ℕ) → pending ≡ map length rows
    → ((t : ℕ) → IsIn ready t ↔ ((t < length pending) × (slice_index pending t ≡ 0))) → IsOrdering rows [] pending ready
IsOrdering-start rows pending ready counts free = record {
  full = full;
  first = IsSmallestFirst-none (length rows) (Precedes rows);
  waits = λ t t_in.
      let count : slice_index pending t ≡ length (slice_index_or rows t []) = rw counts (get_or-map (λ (row : List Edge). length row) rows t [] 0 t_in) in
      let all = all_missing (slice_index_or rows t []) in
      omega (arith, count, all);
  free = λ t. (
    λ is. let (t_in, none) = (free t).0 is in (omega (arith, t_in, full), λ held. let (k, inside, at) = held in (let no_place : k < 0 = inside in omega (arith, no_place)), none),
    λ (t_in, out, none). (free t).1 (omega (arith, t_in, full), none),
  );
}
  where
    full : length pending ≡ length rows
    full = rw (counts, length-map)

    all_missing : (row : List Edge) → missing [] row ≡ length row
    all_missing [] = refl
    all_missing (e ∷ row) = omega (arith, missing-cons [] e row, all_missing row)

module _ (rows : List (List Edge)) (order pending : List ℕ) (ready : BTreeSet ℕ) (is : IsOrdering rows order pending ready) where
  -- a task of which no predecessor is missing is ready
  all_before_out : (t : ℕ) → t < length rows → slice_index pending t ≡ 0 → (a : ℕ) → Precedes rows a t → Contains order a
  all_before_out t t_in none a edge = all_out order (slice_index_or rows t []) (sym (is.waits t t_in) ∙ none) a edge

  -- the least of the set is the smallest task that is ready
  pub smallest_ready : (t : ℕ) → IsIn ready t → ((q : ℕ) → IsIn ready q → t ≤ q) → IsLeast (IsReady (length rows) (Precedes rows) order) t
  smallest_ready t held least =
      let (t_in, out, none) = (is.free t).0 held in
      record {
        has = record { task = t_in; in_ = out; free = all_before_out t t_in none };
        least = λ m m_ready.
            let none_m = is.waits m m_ready.task ∙ missing-none order (slice_index_or rows m []) m_ready.free in
            least m ((is.free m).1 (m_ready.task, m_ready.in_, none_m));
      }

  -- the task is out; its successors wait for one predecessor less
  pub IsOrdering-step : (forth : List (List Edge)) (t : ℕ) (popped now : BTreeSet ℕ) (left : List ℕ) → AreOpposite forth rows → IsIn ready t
      → ((q : ℕ) → IsIn ready q → t ≤ q) → ((q : ℕ) → IsIn popped q ↔ (IsIn ready q × (q ≢ t))) → length left ≡ length pending
      → ((q : ℕ) → slice_index left q + times_in (slice_index_or forth t []) q ≡ slice_index pending q)
      → ((q : ℕ) → IsIn now q ↔ (IsIn popped q ⊎ ((0 < times_in (slice_index_or forth t []) q) × (slice_index left q ≡ 0))))
      → AreRows (length rows) forth
      → IsOrdering rows (order ++ t ∷ []) left now
  IsOrdering-step forth t popped now left opposite held least others same_len fewer grown tasks = record {
    full = omega (arith, same_len, is.full);
    first = IsSmallestFirst-push (length rows) (Precedes rows) order t is.first ready_t;
    waits = λ q q_in. omega (arith, is.waits q q_in, fewer q, missing-push order t (slice_index_or rows q []) out_t, opposite t q);
    free = λ q. (to q, λ (q_in, out, none). from q q_in out none);
  }
    where
      ready_t : IsLeast (IsReady (length rows) (Precedes rows) order) t
      ready_t = smallest_ready t held least

      out_t : Contains order t → ⊥
      out_t = ready_t.has.in_

      -- a successor of the task is not out
      fresh : (q : ℕ) → 0 < times_in (slice_index_or forth t []) q → Contains (order ++ t ∷ []) q → ⊥
      fresh q many held_q =
          let edge = times_in-found (slice_index_or rows q []) t (omega (arith, many, opposite t q)) in
          elim (Contains-push_cases order t q held_q) [
            | inl before ↦ out_t (before_in (length rows) (Precedes rows) order is.first t q before edge)
            | inr same ↦ out_t (ready_t.has.free t (rw (← same) at edge))
          ]

      inside : (q : ℕ) → 0 < times_in (slice_index_or forth t []) q → q < length rows
      inside q many =
          let (k, e, k_in, at, to_q) = times_in-found (slice_index_or forth t []) q many in
          let e_in = tasks.tasks t k e k_in in
          let e_in' = rw (at, to_q) at e_in in
          e_in'

      to : (q : ℕ) → IsIn now q → (q < length rows) × (Contains (order ++ t ∷ []) q → ⊥) × (slice_index left q ≡ 0)
      to q is_now = elim ((grown q).0 is_now) [
        | inr (many, none) ↦ (inside q many, fresh q many, none)
        | inl is_popped ↦ (
            let (was, apart) = (others q).0 is_popped in
            let (q_in, out, none) = (is.free q).0 was in
            (q_in, λ held_q. elim (Contains-push_cases order t q held_q) [ inl before ↦ out before | inr same ↦ apart (sym same) ], omega (arith, none, fewer q)))
      ]

      from : (q : ℕ) → q < length rows → (Contains (order ++ t ∷ []) q → ⊥) → slice_index left q ≡ 0 → IsIn now q
      from q q_in out none = elim (cases_lt 0 (times_in (slice_index_or forth t []) q)) [
        | inl many ↦ (grown q).1 (inr (many, none))
        | inr few ↦ (grown q).1 (inl ((others q).1 (
          (is.free q).1 (q_in, λ before. out (Contains-append_left order (t ∷ []) q before), omega (arith, few, none, fewer q)),
          λ same. out (rw same (Contains-push order t)),
        )))
      ]

  -- a task that is ready is not out, so not all are
  pub some_out : (t : ℕ) → IsIn ready t → ((q : ℕ) → IsIn ready q → t ≤ q) → length order < length rows
  some_out t held least =
      let longer = IsSmallestFirst-push (length rows) (Precedes rows) order t is.first (smallest_ready t held least) in
      let most : length order + 1 ≤ length rows = rw length-append at (length-le_from_first (length rows) (Precedes rows) (order ++ t ∷ []) longer) in
      omega arith

  -- there is as much to take away
  pub enough : (forth : List (List Edge)) (t : ℕ) → AreOpposite forth rows → IsIn ready t → (q : ℕ) → times_in (slice_index_or forth t []) q ≤ slice_index pending q
  enough forth t opposite held q = elim (cases_lt q (length rows)) [
    | inl q_in ↦ omega (arith, is.waits q q_in, missing-push order t (slice_index_or rows q []) ((is.free t).0 held).1, opposite t q)
    | inr past ↦ (
        let empty = get_or_past rows q [] past in
        let none : times_in (slice_index_or rows q []) t ≡ 0 = rw empty in
        omega (arith, none, opposite t q))
  ]

  -- where the set is empty
  module _ (stuck : (t : ℕ) → IsIn ready t → ⊥) (tasks : AreRows (length rows) rows) where
    -- a task that is not out waits, and one that is out does not
    waiting_from_out : (t : ℕ) → t < length rows → (Contains order t → ⊥) → IsWaiting pending t
    waiting_from_out t t_in out = elim (cases_lt 0 (slice_index pending t)) [
      | inl many ↦ many
      | inr few ↦ absurd (stuck t ((is.free t).1 (t_in, out, omega (arith, few))))
    ]

    out_from_waiting : (t : ℕ) → IsWaiting pending t → Contains order t → ⊥
    out_from_waiting t waits held =
        let t_in : t < length rows = omega (arith, waiting_in pending t waits, is.full) in
        let none = missing-none order (slice_index_or rows t []) (λ a edge. before_in (length rows) (Precedes rows) order is.first a t held edge) in
        omega (arith, is.waits t t_in, none, waits)

    in_or_out : (t : ℕ) → Contains order t ⊎ (Contains order t → ⊥)
    in_or_out t = elim (cases_Bool (list_any (nat_eq t) order)) [
      | inl held ↦ inl (Contains-tested t order held)
      | inr out ↦ inr (λ held. let both : true ≡ false = sym (tested-Contains t order held) ∙ out in absurd (cc))
    ]

    -- so one does where not all tasks are out
    some_waiting : length order < length rows → (t : ℕ) × IsWaiting pending t
    some_waiting fewer = elim (cases_Bool (list_any (λ p. nat_lt 0 p) pending)) [
      | inl found ↦ (let (k, p, inside, at, many) = Any-from_list_any (λ p. nat_lt 0 p) pending found in
          let read = get_or_default_zero pending k p inside in
          let many' = ltb-true 0 p many in
          (k, omega (arith, many', at, read)))
      | inr none ↦ absurd (
          let most = length-ge_from_all order (length rows) (λ t t_in. elim (in_or_out t) [
            | inl held ↦ held
            | inr out ↦ absurd (
                let waits = waiting_from_out t t_in out in
                let found = list_any_at (λ p. nat_lt 0 p) pending t 0 (omega (arith, t_in, is.full)) (lt-ltb 0 (slice_index pending t) waits) in
                let both : true ≡ false = sym found ∙ none in cc)
          ]) in
          omega (arith, most, fewer))
    ]

    -- each of them waits for one that waits
    some_before : (t : ℕ) → IsWaiting pending t → (a : ℕ) × IsWaiting pending a × Precedes rows a t
    some_before t waits =
        let t_in : t < length rows = omega (arith, waiting_in pending t waits, is.full) in
        let (a, edge, out) = some_missing order (slice_index_or rows t []) (omega (arith, is.waits t t_in, waits)) in
        (a, waiting_from_out a (a_in t a edge) out, edge)
      where
        a_in : (t a : ℕ) → Precedes rows a t → a < length rows
        a_in t a (k, e, inside, at, to_a) = (let e_in = tasks.tasks t k e inside in rw (at, to_a) at e_in)

    waiting_from_left : (t : ℕ) → IsLeft (length rows) (Precedes rows) t → IsWaiting pending t
    waiting_from_left t left = elim (in_or_out t) [
      | inl held ↦ absurd (left.1 (IsRemoved-from_first (length rows) (Precedes rows) order is.first t held))
      | inr out ↦ waiting_from_out t left.0 out
    ]

    -- so all that could be taken out are
    pub AreTakenOut-end : AreTakenOut rows order pending
    AreTakenOut-end = record {
      full = is.full;
      most = length-le_from_first (length rows) (Precedes rows) order is.first;
      first = is.first;
      some_waits = some_waiting;
      stuck = some_before;
      left = waiting_from_left;
    }

module _ (rows : List (List Edge)) (order pending : List ℕ) (taken : AreTakenOut rows order pending) where
  -- a task that waits is never removed
  left_from_waiting : (t : ℕ) → IsWaiting pending t → IsRemoved (Precedes rows) t → ⊥
  left_from_waiting t waits (all_before before) =
      let (a, waits_a, edge) = taken.stuck t waits in
      left_from_waiting a waits_a (before a edge)

  -- so the walk over the tasks that wait is the walk over those that are left
  pub IsFoundCycle-left : (cycle : List ℕ) → IsFoundCycle (IsWaiting pending) (Precedes rows) cycle → IsFoundCycle (IsLeft (length rows) (Precedes rows)) (Precedes rows) cycle
  IsFoundCycle-left cycle found =
      IsFoundCycle-same (IsWaiting pending) (IsLeft (length rows) (Precedes rows)) (Precedes rows) (Precedes rows)
      (λ t waits. (omega (arith, waiting_in pending t waits, taken.full), left_from_waiting t waits)) taken.left (λ a t edge. edge) (λ a t edge. edge) cycle found

  -- where no task is left, all are out
  pub all_taken : (n : ℕ) → length rows ≤ n → n ≡ length order → length order ≡ length rows
  all_taken n past many = omega (arith, taken.most)

-- a row is no longer than the tasks are many
pub row_short : (count : ℕ) (rows : List (List Edge)) → AreRows count rows → (t : ℕ) → length (slice_index_or rows t []) ≤ count
row_short count rows are t =
    let row = slice_index_or rows t [] in
    let most = length-le_from_apart (map (λ (e : Edge). e.task.0) row) count
    (λ i j d less inside same.
    let j_in : j < length row = rw length-map at inside in
    let one = get_or-map (λ (e : Edge). e.task.0) row i (record { task = record { 0 = 0 }; weight = 0 }) d (omega (arith, less, j_in)) in
    let two = get_or-map (λ (e : Edge). e.task.0) row j (record { task = record { 0 = 0 }; weight = 0 }) d j_in in
    let rises = are.rising t i j (record { task = record { 0 = 0 }; weight = 0 }) less j_in in
    omega (arith, one, two, rises, same))
    (All-map (λ a. a < count) (λ (e : Edge). e.task.0) row (are.tasks t)) in
    omega (arith, most, length-map row (λ (e : Edge). e.task.0))
