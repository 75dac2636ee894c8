-- The rows of edges as the reads are gone through, task by task.
use Rattle.std.proofs.Common.{◌≡◌, ◌≢◌, ℕ, ◌+◌, ◌*◌, ◌^◌, ◌<◌, ◌≤◌, ◌⊎◌, set, length-set, get_or-set_same, get_or-set_other, inl, inr, List, [], ◌∷◌, ◌++◌, length, get_or, take, arith, refl, ap, sym, ◌∙◌, length-append, zero-add}
use Rattle.std.specs.Prelude.{nat_eq, nat_lt, if◌then◌else◌, All, sum_by}
use Rattle.std.proofs.lemmas.Bool.{cases_eq, cases_lt, cases_order, lt-ltb, le-ltb}
use Rattle.std.proofs.lemmas.List.{take_more, take_all, append-nil, length-map, get_or-map, get_or_read, length-take}
use Rattle.std.proofs.lemmas.List.Elements.{All-nil, All-push, filter-append}
use Rattle.std.proofs.lemmas.List.Quantifiers.{Any-push, all_pairs_push}
use Rattle.std.proofs.lemmas.List.Sums.{sum_by_push, sum_by-le, length-filter, count_by-le-length}
use Rattle.std.proofs.Math.Nat.{mul-le-mul_right}
use Rattle.pyr_graph.specs.declared.edge.Edge.{Edge}
use Rattle.pyr_num.specs.declared.ids.TaskId.{TaskId}
use Rattle.pyr_num.specs.declared.ids.DatumId.{DatumId}
use Rattle.pyr_graph.specs.declared.parts.TaskParts.{TaskParts}
use Rattle.pyr_graph.specs.declared.parts.DatumParts.{DatumParts}
use Rattle.pyr_graph.specs.System.{task_in, reads_in, datum_in}
use Rattle.pyr_graph.specs.Tables.{edge_of, added, from_writer, writer_in, IsRow}
use Rattle.pyr_graph.proofs.ListLemmas.{nat_eq-same, nat_eq-apart, last_of, All-front, All-last, AllPairs-front, AllPairs-last, Any-append_left, Any-push_cases}
use Rattle.pyr_graph.proofs.RowLemmas.{added-same, added-other}

-- the reads gone through: those of the tasks before task i, and the first j of its own
abbrev pub read_so_far : (ℕ → List ℕ) → ℕ → ℕ → ℕ → List ℕ
read_so_far reads i j c = if nat_lt c i then reads c else (if nat_eq c i then take j (reads c) else [])

module _ (reads : ℕ → List ℕ) (i j : ℕ) where
  pub read_so_far-before : (c : ℕ) → c < i → read_so_far reads i j c ≡ reads c
  read_so_far-before c less = rw (lt-ltb c i less)

  pub read_so_far-at : read_so_far reads i j i ≡ take j (reads i)
  read_so_far-at = rw (le-ltb i i (omega arith), nat_eq-same i i refl)

  pub read_so_far-after : (c : ℕ) → i < c → read_so_far reads i j c ≡ []
  read_so_far-after c more = rw (le-ltb c i (omega arith), nat_eq-apart c i (λ same. omega (arith, same)))

module _ (writer comm : ℕ → ℕ) (count a : ℕ) where
  -- the same reads below the count give the same row
  pub IsRow-same : (reads other : ℕ → List ℕ) → ((c : ℕ) → c < count → reads c ≡ other c) → (row : List Edge) → IsRow writer comm reads count a row → IsRow writer comm other count a row
  IsRow-same reads other same row is = record {
    sound = λ k d inside.
        let (e_in, linked, weight) = is.sound k d inside in
        rw (← same (get_or row k d).task.0 e_in) (e_in, linked, weight);
    complete = λ b b_in linked. is.complete b b_in (rw (same b b_in) linked);
    rising = is.rising;
  }

  -- before the first read there is no edge
  pub IsRow-none : (reads : ℕ → List ℕ) → ((c : ℕ) → c < count → reads c ≡ []) → IsRow writer comm reads count a []
  IsRow-none reads none = record {
    sound = All-nil (λ (e : Edge). (e.task.0 < count) × (0 < length (from_writer writer a (reads e.task.0))) × (e.weight ≡ sum_by comm (from_writer writer a (reads e.task.0))));
    complete = λ b b_in linked. absurd (let linked' = rw (none b b_in) at linked in let no : 0 < 0 = linked' in omega (arith, no));
    rising = λ i j d less inside. absurd (let no : j < 0 = inside in omega (arith, no));
  }

  -- a datum of another writer changes nothing
  from_writer-other : (list : List ℕ) (d : ℕ) → writer d ≢ a → from_writer writer a (list ++ d ∷ []) ≡ from_writer writer a list
  from_writer-other list d apart = rw (filter-append (λ e. nat_eq (writer e) a) list (d ∷ []), nat_eq-apart (writer d) a apart) (append-nil (from_writer writer a list))

  from_writer-same : (list : List ℕ) (d : ℕ) → writer d ≡ a → from_writer writer a (list ++ d ∷ []) ≡ from_writer writer a list ++ d ∷ []
  from_writer-same list d same = rw (filter-append (λ e. nat_eq (writer e) a) list (d ∷ []), nat_eq-same (writer d) a same)

  -- one datum more is read by task b, the last task with reads so far
  module _ (reads more : ℕ → List ℕ) (b d : ℕ) (b_in : b < count) (here : more b ≡ reads b ++ d ∷ [])
      (there : (c : ℕ) → c < count → c ≢ b → more c ≡ reads c) (above : (c : ℕ) → b < c → c < count → reads c ≡ [])
      (row : List Edge) (is : IsRow writer comm reads count a row) where
    same_from : writer d ≢ a → (c : ℕ) → c < count → from_writer writer a (more c) ≡ from_writer writer a (reads c)
    same_from apart c c_in = elim (cases_eq c b) [
      | inl same ↦ rw (same, here) (from_writer-other (reads b) d apart)
      | inr other ↦ ap (from_writer writer a) (there c c_in other)
    ]

    -- the row of another writer stays
    pub IsRow-other : writer d ≢ a → IsRow writer comm more count a row
    IsRow-other apart = record {
      sound = λ k e inside.
          let (e_in, linked, weight) = is.sound k e inside in
          let same = same_from apart (get_or row k e).task.0 e_in in
          (e_in, rw same linked, weight ∙ ap (sum_by comm) (sym same));
      complete = λ c c_in linked. is.complete c c_in (rw (same_from apart c c_in) at linked);
      rising = is.rising;
    }

    -- no edge leads past task b
    upto : All (λ e. e.task.0 ≤ b) row
    upto k e inside = elim (cases_lt b (get_or row k e).task.0) [
      | inr le ↦ le
      | inl less ↦ absurd (
          let (e_in, linked, weight) = is.sound k e inside in
          let linked' = rw (above (get_or row k e).task.0 less e_in) at linked in
          let no : 0 < 0 = linked' in omega (arith, no))
    ]

    -- an edge that does not lead to b is as before
    kept : (e : Edge) → e.task.0 ≢ b → (e.task.0 < count) × (0 < length (from_writer writer a (reads e.task.0))) × (e.weight ≡ sum_by comm (from_writer writer a (reads e.task.0)))
        → (e.task.0 < count) × (0 < length (from_writer writer a (more e.task.0))) × (e.weight ≡ sum_by comm (from_writer writer a (more e.task.0)))
    kept e apart (e_in, linked, weight) = rw (there e.task.0 e_in apart) (e_in, linked, weight)

    -- what is read from a now
    now_from : writer d ≡ a → from_writer writer a (more b) ≡ from_writer writer a (reads b) ++ d ∷ []
    now_from same = rw here (from_writer-same (reads b) d same)

    now_linked : writer d ≡ a → 0 < length (from_writer writer a (more b))
    now_linked same = rw (now_from same, length-append (from_writer writer a (reads b)) (d ∷ [])) (omega arith)

    now_weighs : writer d ≡ a → sum_by comm (from_writer writer a (more b)) ≡ sum_by comm (from_writer writer a (reads b)) + comm d
    now_weighs same = rw (now_from same) (sum_by_push comm (from_writer writer a (reads b)) d)

    -- the last edge leads to b already
    IsRow-last : writer d ≡ a → (front : List Edge) (last : Edge) → row ≡ front ++ last ∷ [] → last.task.0 ≡ b
        → IsRow writer comm more count a (front ++ edge_of b (last.weight + comm d) ∷ [])
    IsRow-last same front last whole to_b =
        let sound = rw whole at is.sound in
        let rising = rw whole at is.rising in
        let weight = All-last (λ e. (e.task.0 < count) × (0 < length (from_writer writer a (reads e.task.0))) × (e.weight ≡ sum_by comm (from_writer writer a (reads e.task.0)))) front last sound in
        record {
          sound = All-push (λ e. (e.task.0 < count) × (0 < length (from_writer writer a (more e.task.0))) × (e.weight ≡ sum_by comm (from_writer writer a (more e.task.0)))) front (edge_of b (last.weight + comm d))
              (λ k e inside. kept (get_or front k e)
              (λ at_b. let less = AllPairs-last (λ (e f : Edge). e.task.0 < f.task.0) front last rising k e inside in omega (arith, less, at_b, to_b))
              (All-front (λ e. (e.task.0 < count) × (0 < length (from_writer writer a (reads e.task.0))) × (e.weight ≡ sum_by comm (from_writer writer a (reads e.task.0)))) front last sound k e inside))
              (b_in, now_linked same, (let w = rw to_b at weight.2 in ap (λ n. n + comm d) w ∙ sym (now_weighs same)));
          complete = λ c c_in linked. elim (cases_eq c b) [
            | inl at_b ↦ Any-push (λ e. e.task.0 ≡ c) front (edge_of b (last.weight + comm d)) (sym at_b)
            | inr apart ↦ (
                let found = rw whole at (is.complete c c_in (rw (there c c_in apart) at linked)) in
                elim (Any-push_cases (λ e. e.task.0 ≡ c) front last found) [
                  | inl before ↦ Any-append_left (λ e. e.task.0 ≡ c) front (edge_of b (last.weight + comm d) ∷ []) before
                  | inr at_last ↦ absurd (apart (sym at_last ∙ to_b))
                ])
          ];
          rising = all_pairs_push (λ e f. e.task.0 < f.task.0) front (edge_of b (last.weight + comm d)) (AllPairs-front (λ (e f : Edge). e.task.0 < f.task.0) front last rising)
              (λ k e inside. rw to_b at (AllPairs-last (λ (e f : Edge). e.task.0 < f.task.0) front last rising k e inside));
        }

    -- no edge leads to b yet
    IsRow-next : writer d ≡ a → All (λ e. e.task.0 < b) row → IsRow writer comm more count a (row ++ edge_of b (comm d) ∷ [])
    IsRow-next same before = record {
      sound = All-push (λ e. (e.task.0 < count) × (0 < length (from_writer writer a (more e.task.0))) × (e.weight ≡ sum_by comm (from_writer writer a (more e.task.0)))) row (edge_of b (comm d))
          (λ k e inside. kept (get_or row k e) (λ at_b. let less = before k e inside in omega (arith, less, at_b)) (is.sound k e inside))
          (b_in, now_linked same, (let weighs = now_weighs same in let none = rw unlinked at weighs in sym (none ∙ zero-add (comm d))));
      complete = λ c c_in linked. elim (cases_eq c b) [
        | inl at_b ↦ Any-push (λ e. e.task.0 ≡ c) row (edge_of b (comm d)) (sym at_b)
        | inr apart ↦ Any-append_left (λ e. e.task.0 ≡ c) row (edge_of b (comm d) ∷ []) (is.complete c c_in (rw (there c c_in apart) at linked))
      ];
      rising = all_pairs_push (λ e f. e.task.0 < f.task.0) row (edge_of b (comm d)) is.rising before;
    }
      where
        nil_or : (list : List ℕ) → (0 < length list → ⊥) → list ≡ []
        nil_or [] none = refl
        nil_or (x ∷ list) none = absurd (none (omega arith))

        unlinked : from_writer writer a (reads b) ≡ []
        unlinked = nil_or (from_writer writer a (reads b)) (λ linked.
            let (k, e, inside, at, to_b) = is.complete b b_in linked in
            let less = before k e inside in
            let less' = rw at at less in
            omega (arith, less', to_b))

    -- the row of the writer has the weight added
    pub IsRow-added : writer d ≡ a → IsRow writer comm more count a (added row b (comm d))
    IsRow-added same = elim (last_of row) [
      | inl none ↦ rw none (rw none at (IsRow-next same (λ k e inside. absurd (let no : k < 0 = rw none at inside in omega (arith, no)))))
      | inr (front, last, whole) ↦ elim (cases_eq last.task.0 b) [
        | inl to_b ↦ rw (whole, added-same front last b (comm d) to_b) (IsRow-last same front last whole to_b)
        | inr apart ↦ (
            let whole_upto = rw whole at upto in
            let rising = rw whole at is.rising in
            let last_le = All-last (λ (e : Edge). e.task.0 ≤ b) front last whole_upto in
            let before : All (λ e. e.task.0 < b) (front ++ last ∷ []) = All-push (λ e. e.task.0 < b) front last
            (λ k e inside. let less = AllPairs-last (λ (e f : Edge). e.task.0 < f.task.0) front last rising k e inside in omega (arith, less, last_le))
            (omega (arith, last_le, apart)) in
            let goal = IsRow-next same (rw whole before) in
            rw (whole, added-other front last b (comm d) apart) (rw whole at goal))
      ]
    ]

    -- a weight stays within what the reads weigh
    pub weight-le : (most : ℕ) → ((e : ℕ) → comm e ≤ most) → All (λ e. e.weight ≤ length (reads e.task.0) * most) row
    weight-le most light k e inside =
        let (e_in, linked, weight) = is.sound k e inside in
        let list = reads (get_or row k e).task.0 in
        let sum_le = sum_by-le comm most (from_writer writer a list) (λ k e inside. light (get_or (from_writer writer a list) k e)) in
        let short : length (from_writer writer a list) ≤ length list = omega (arith, length-filter (λ e. nat_eq (writer e) a) list, count_by-le-length (λ e. nat_eq (writer e) a) list) in
        grind (arith, mul-le-mul_right most short)

-- the rows of the reads so far: those of the tasks before task i, and the first j of its own
pub record AreRowsSoFar (tasks : List TaskParts) (datums : List DatumParts) (writers : List TaskId) (i j : ℕ) (rows : List (List Edge)) : Type 0 where
  pub full : length rows ≡ length tasks
  pub each : (a : ℕ) → a < length tasks → IsRow (writer_in writers) (λ d. (datum_in datums d).comm) (read_so_far (reads_in tasks) i j) (length tasks) a (get_or rows a [])

module _ (tasks : List TaskParts) (datums : List DatumParts) (writers : List TaskId) where
  abbrev weight : ℕ → ℕ
  weight d = (datum_in datums d).comm

  pub AreRowsSoFar-start : (rows : List (List Edge)) → length rows ≡ length tasks → ((a : ℕ) → get_or rows a [] ≡ []) → AreRowsSoFar tasks datums writers 0 0 rows
  AreRowsSoFar-start rows full empty = record {
    full = full;
    each = λ a a_in. rw (empty a) (IsRow-none (writer_in writers) weight (length tasks) a (read_so_far (reads_in tasks) 0 0) (λ c c_in. none c (cases_order c 0)));
  }
    where
      none : (c : ℕ) → (c ≡ 0) ⊎ ((c < 0) ⊎ (0 < c)) → read_so_far (reads_in tasks) 0 0 c ≡ []
      none c (inl same) = rw same (read_so_far-at (reads_in tasks) 0 0)
      none c (inr (inl less)) = absurd (omega arith)
      none c (inr (inr more)) = read_so_far-after (reads_in tasks) 0 0 c more

  -- task i is gone through
  pub AreRowsSoFar-next : (i j : ℕ) (rows : List (List Edge)) → AreRowsSoFar tasks datums writers i j rows → length (reads_in tasks i) ≤ j → AreRowsSoFar tasks datums writers (i + 1) 0 rows
  AreRowsSoFar-next i j rows is past = record {
    full = is.full;
    each = λ a a_in. IsRow-same (writer_in writers) weight (length tasks) a (read_so_far (reads_in tasks) i j) (read_so_far (reads_in tasks) (i + 1) 0) (λ c c_in. same c (cases_order c i)) (get_or rows a []) (is.each a a_in);
  }
    where
      later : (c : ℕ) → i < c → (c ≡ i + 1) ⊎ ((c < i + 1) ⊎ (i + 1 < c)) → read_so_far (reads_in tasks) (i + 1) 0 c ≡ []
      later c more (inl at) = rw at (read_so_far-at (reads_in tasks) (i + 1) 0)
      later c more (inr (inl less)) = absurd (omega arith)
      later c more (inr (inr past)) = read_so_far-after (reads_in tasks) (i + 1) 0 c past

      same : (c : ℕ) → (c ≡ i) ⊎ ((c < i) ⊎ (i < c)) → read_so_far (reads_in tasks) i j c ≡ read_so_far (reads_in tasks) (i + 1) 0 c
      same c (inl at) = rw at (read_so_far-at (reads_in tasks) i j ∙ (take_all j (reads_in tasks i) past ∙ sym (read_so_far-before (reads_in tasks) (i + 1) 0 i (omega arith))))
      same c (inr (inl less)) = read_so_far-before (reads_in tasks) i j c less ∙ sym (read_so_far-before (reads_in tasks) (i + 1) 0 c (omega arith))
      same c (inr (inr more)) = read_so_far-after (reads_in tasks) i j c more ∙ sym (later c more (cases_order c (i + 1)))

  -- all tasks are gone through
  pub AreRowsSoFar-end : (rows : List (List Edge)) (i j : ℕ) → length tasks ≤ i → AreRowsSoFar tasks datums writers i j rows
      → (a : ℕ) → a < length tasks → IsRow (writer_in writers) weight (reads_in tasks) (length tasks) a (get_or rows a [])
  AreRowsSoFar-end rows i j past is a a_in =
      IsRow-same (writer_in writers) weight (length tasks) a (read_so_far (reads_in tasks) i j) (reads_in tasks) (λ c c_in. read_so_far-before (reads_in tasks) i j c (omega arith)) (get_or rows a []) (is.each a a_in)

  -- one datum more of task i
  module _ (i j : ℕ) (rows : List (List Edge)) (is : AreRowsSoFar tasks datums writers i j rows) (i_in : i < length tasks) (j_in : j < length (task_in tasks i).reads) where
    abbrev datum : ℕ
    datum = (get_or (task_in tasks i).reads j (record { 0 = 0 })).0

    abbrev from : ℕ
    from = writer_in writers datum

    here : read_so_far (reads_in tasks) i (j + 1) i ≡ read_so_far (reads_in tasks) i j i ++ datum ∷ []
    here =
        let many : j < length (reads_in tasks i) = omega (arith, length-map (task_in tasks i).reads (λ (d : DatumId). d.0)) in
        let read : get_or (reads_in tasks i) j 0 ≡ datum = get_or-map (λ (d : DatumId). d.0) (task_in tasks i).reads j (record { 0 = 0 }) 0 j_in in
        read_so_far-at (reads_in tasks) i (j + 1)
        ∙ (take_more (reads_in tasks i) j 0 many ∙ (ap (λ (n : ℕ). take j (reads_in tasks i) ++ n ∷ []) read
        ∙ ap (λ (xs : List ℕ). xs ++ datum ∷ []) (sym (read_so_far-at (reads_in tasks) i j))))

    there : (c : ℕ) → c ≢ i → (c ≡ i) ⊎ ((c < i) ⊎ (i < c)) → read_so_far (reads_in tasks) i (j + 1) c ≡ read_so_far (reads_in tasks) i j c
    there c apart (inl same) = absurd (apart same)
    there c apart (inr (inl less)) = read_so_far-before (reads_in tasks) i (j + 1) c less ∙ sym (read_so_far-before (reads_in tasks) i j c less)
    there c apart (inr (inr more)) = read_so_far-after (reads_in tasks) i (j + 1) c more ∙ sym (read_so_far-after (reads_in tasks) i j c more)

    pub AreRowsSoFar-step : from < length tasks → AreRowsSoFar tasks datums writers i (j + 1) (set rows from (added (get_or rows from []) i (weight datum)))
    AreRowsSoFar-step from_in = record {
      full = rw length-set is.full;
      each = λ a a_in. elim (cases_eq a from) [
        | inl same ↦ (
            let written = get_or-set_same rows from (added (get_or rows from []) i (weight datum)) [] (omega (arith, is.full)) in
            rw (same, written)
            (IsRow-added (writer_in writers) weight (length tasks) from (read_so_far (reads_in tasks) i j) (read_so_far (reads_in tasks) i (j + 1)) i datum i_in here
            (λ c c_in apart. there c apart (cases_order c i)) (λ c more c_in. read_so_far-after (reads_in tasks) i j c more) (get_or rows from []) (is.each from from_in) refl))
        | inr apart ↦ (
            let kept = get_or-set_other rows from a (added (get_or rows from []) i (weight datum)) [] apart in
            rw kept
            (IsRow-other (writer_in writers) weight (length tasks) a (read_so_far (reads_in tasks) i j) (read_so_far (reads_in tasks) i (j + 1)) i datum i_in here
            (λ c c_in apart. there c apart (cases_order c i)) (λ c more c_in. read_so_far-after (reads_in tasks) i j c more) (get_or rows a []) (is.each a a_in) (λ at. apart (sym at))))
      ];
    }

    -- the weight that is added fits
    pub weight_fits : (most few : ℕ) → ((d : ℕ) → weight d ≤ most) → ((t : ℕ) → length (reads_in tasks t) ≤ few) → (few + 1) * most < 2 ^ 64 → from < length tasks
        → All (λ e. e.weight + weight datum < 2 ^ 64) (get_or rows from [])
    weight_fits most few light short fits from_in k e inside =
        let bound = weight-le (writer_in writers) weight (length tasks) from (read_so_far (reads_in tasks) i j) (read_so_far (reads_in tasks) i (j + 1)) i datum i_in here
        (λ c c_in apart. there c apart (cases_order c i)) (λ c more c_in. read_so_far-after (reads_in tasks) i j c more) (get_or rows from []) (is.each from from_in) most light k e inside in
        let t = (get_or (get_or rows from []) k e).task.0 in
        let few_so_far : length (read_so_far (reads_in tasks) i j t) ≤ few = short_so_far t (cases_order t i) in
        let product = mul-le-mul_right most few_so_far in
        let own = light datum in
        grind arith
      where
        short_so_far : (c : ℕ) → (c ≡ i) ⊎ ((c < i) ⊎ (i < c)) → length (read_so_far (reads_in tasks) i j c) ≤ few
        short_so_far c (inl same) = rw (same, read_so_far-at (reads_in tasks) i j, length-take) (omega (arith, short i))
        short_so_far c (inr (inl less)) = rw (read_so_far-before (reads_in tasks) i j c less) (short c)
        short_so_far c (inr (inr more)) = rw (read_so_far-after (reads_in tasks) i j c more) (omega arith)

  -- the same, of what the code has read
  pub AreRowsSoFar-read : (i j : ℕ) (rows : List (List Edge)) (reads : List DatumId) (row new : List Edge) (w : ℕ) → AreRowsSoFar tasks datums writers i j rows
      → i < length tasks → reads ≡ (task_in tasks i).reads → j < length reads
      → row ≡ get_or rows (writer_in writers (get_or reads j (record { 0 = 0 })).0) row → w ≡ weight (get_or reads j (record { 0 = 0 })).0 → new ≡ added row i w
      → writer_in writers (get_or reads j (record { 0 = 0 })).0 < length tasks
      → AreRowsSoFar tasks datums writers i (j + 1) (set rows (writer_in writers (get_or reads j (record { 0 = 0 })).0) new)
  AreRowsSoFar-read i j rows reads row new w is i_in same j_in row_is w_is new_is from_in =
      let row_is' = get_or_read rows _ row (omega (arith, from_in, is.full)) row_is [] in
      rw (new_is, row_is', w_is, same) (AreRowsSoFar-step i j rows is i_in (rw same at j_in) (rw same at from_in))

  pub weight_fits-read : (i j : ℕ) (rows : List (List Edge)) (reads : List DatumId) (row : List Edge) (w : ℕ) → AreRowsSoFar tasks datums writers i j rows
      → i < length tasks → reads ≡ (task_in tasks i).reads → j < length reads
      → row ≡ get_or rows (writer_in writers (get_or reads j (record { 0 = 0 })).0) row → w ≡ weight (get_or reads j (record { 0 = 0 })).0
      → (most few : ℕ) → ((d : ℕ) → weight d ≤ most) → ((t : ℕ) → length (reads_in tasks t) ≤ few) → (few + 1) * most < 2 ^ 64
      → writer_in writers (get_or reads j (record { 0 = 0 })).0 < length tasks
      → All (λ e. e.weight + w < 2 ^ 64) row
  weight_fits-read i j rows reads row w is i_in same j_in row_is w_is most few light short fits from_in =
      let row_is' = get_or_read rows _ row (omega (arith, from_in, is.full)) row_is [] in
      rw (row_is', w_is, same) (weight_fits i j rows is i_in (rw same at j_in) most few light short fits (rw same at from_in))
